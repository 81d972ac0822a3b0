-- Parts of trees that fit the values' types: numbers of 16 bits, lists within the limits.
use Rattle.std.specs.Prelude.{◌<◌, ◌≤◌, length}
use Rattle.cyc_basics.specs.declared.limits.TheConstants.{MOST_DISJUNCTS, MOST_NODES, MOST_PREDICATES}
use Rattle.heap_formula.specs.Words.{Each}
use Rattle.heap_reader.specs.Small.{IsSmall, IsSmallHeap}
use Rattle.proof_syntax.specs.declared.tree.PairTree.{PairTree}
use Rattle.proof_syntax.specs.Trees.{Entailment, Judgement, Entails, From, Reason, Absurd, Rewrite, Split, Distinct}
use Rattle.proof_syntax.specs.Trees.{Weaken, Unfold, Cut, Done, Choose, PureRight, Instantiate, Frame, UnfoldRight}
use Rattle.proof_syntax.specs.Trees.{Exec, Drop, Link, Node, File}
pub use Rattle.heap_reader.specs.DefinitionSmall.{IsSmallDefinition}
use Rattle.heap_reader.specs.EndSmall.{IsSmallEnd}
use Rattle.proof_file.specs.Values.{term_value}

pub record IsSmallEntailment (e : Entailment) : Type 0 where
  pub antecedent : IsSmallHeap term_value e.antecedent
  pub disjuncts : Each (IsSmallHeap term_value) e.disjuncts
  pub some : 0 < length e.disjuncts
  pub few : length e.disjuncts ≤ MOST_DISJUNCTS

abbrev pub IsSmallJudgement : Judgement → Type 0
IsSmallJudgement (Entails e) = IsSmallEntailment e
IsSmallJudgement (From n h) = IsSmallHeap term_value h

abbrev pub IsSmallPair : PairTree → Type 0
IsSmallPair p = (p.variable < 65536) × IsSmall term_value p.value

abbrev pub IsSmallReason : Reason → Type 0
IsSmallReason (Split t u) = IsSmall term_value t × IsSmall term_value u
IsSmallReason (Cut places formula) = IsSmallHeap term_value formula
IsSmallReason (Instantiate v t) = (v < 65536) × IsSmall term_value t
IsSmallReason (Link l) = Each IsSmallPair l.substitution
IsSmallReason Absurd = Unit {0}
IsSmallReason (Rewrite k side) = Unit {0}
IsSmallReason (Distinct i j) = Unit {0}
IsSmallReason (Weaken k) = Unit {0}
IsSmallReason (Unfold k) = Unit {0}
IsSmallReason Done = Unit {0}
IsSmallReason (Choose j) = Unit {0}
IsSmallReason (PureRight k) = Unit {0}
IsSmallReason (Frame i j) = Unit {0}
IsSmallReason (UnfoldRight j c) = Unit {0}
IsSmallReason Exec = Unit {0}
IsSmallReason (Drop k) = Unit {0}

abbrev pub IsSmallNode : Node → Type 0
IsSmallNode n = IsSmallJudgement n.judgement × IsSmallReason n.reason

pub record IsSmallFile (f : File) : Type 0 where
  pub definitions : Each IsSmallDefinition f.definitions
  pub few : length f.definitions ≤ MOST_PREDICATES
  pub ends : Each (IsSmallEnd term_value) f.ends
  pub nodes : Each IsSmallNode f.nodes
  pub nodes_few : length f.nodes ≤ MOST_NODES
