-- What the reader of a proof sees to.
use Rattle.std.specs.Prelude.{◌<◌, ◌≤◌, length, List}
use Rattle.cyc_basics.specs.declared.limits.TheConstants.{MOST_NODES}
use Rattle.heap_formula.specs.Words.{Each}
use Rattle.fo_formula.specs.declared.nodes.FoFile.{FoFile}
use Rattle.fo_formula.specs.declared.theory.Constructor.{Constructor as ConstructorValue}
use Rattle.fo_formula.specs.Nodes.{FoNode}
use Rattle.fo_formula.specs.Shapes.{HasConstant, IsOpenSequent}
use Rattle.fo_formula.specs.Small.{IsSmallSequent, IsSmallDefinition}
use Rattle.fo_formula.specs.Soundness.{HasOpenReason}

-- a node of terms over the constructors, within the limits
pub record IsReadNode (cs : List ConstructorValue) (n : FoNode) : Type 0 where
  pub small : IsSmallSequent n.judgement
  pub sequent : IsOpenSequent cs n.judgement
  pub reason : HasOpenReason cs n.reason

-- a proof as its reader gives it: at least one node and at most 20,000; a first constructor without arguments; nodes
-- and definitions within the limits, of terms over the constructors
pub record IsFoProof (f : FoFile) : Type 0 where
  pub some : 0 < length f.nodes
  pub few : length f.nodes ≤ MOST_NODES
  pub constant : HasConstant f.theory
  pub definitions : Each IsSmallDefinition f.theory.definitions
  pub nodes : Each (IsReadNode f.theory.constructors) f.nodes
