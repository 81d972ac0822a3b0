-- What a verdict says of a proof.
use Rattle.std.specs.Prelude.{◌≡◌, ℕ, List, Some, slice_get}
use Rattle.fo_formula.specs.declared.nodes.FoFile.{FoFile}
use Rattle.fo_formula.specs.declared.nodes.FoReason.{FoReason}
use Rattle.fo_formula.specs.declared.sequents.FoSequent.{FoSequent}
use Rattle.fo_formula.specs.Nodes.{FoNode}
use Rattle.fo_formula.specs.Validity.{SequentHolds}
use Rattle.fo_formula.specs.declared.table.faults.FoFault.{FoFault}
use Rattle.trace_pairs.specs.Graph.{Node as GraphNode}
use Rattle.trace_pairs.specs.Lasso.{IsLasso, Progresses}
use Rattle.buchi_inclusion.specs.Answers.{HasAtMost, HasMoreThan}
pub use Rattle.buchi_inclusion.specs.Answers.{state_limit}
use Rattle.logics.specs.declared.verdict.Verdict.{Verdict}
use Rattle.logics.specs.declared.verdict.Verdict.TheVariants.{Accepted, RuleRefused, PathRefused, TooManyStates}
use Rattle.logics.specs.Logics.{LogicValue}
use Rattle.logics.specs.Faults.{AreRight, IsLeastFault as IsLeastFaultIn}
use Rattle.logics.specs.Graphs.{graph_of}
use Rattle.logics.specs.Verdicts.{IsCorrect as IsCorrectIn}
use Rattle.fo_logic.specs.FirstOrder.{first_order}

abbrev pub FoVerdict : Type 0
FoVerdict = Verdict FoFault

-- first-order logic over the proof's theory
abbrev pub logic_of : FoFile → LogicValue FoSequent FoReason FoFault
logic_of f = first_order f.theory

abbrev pub file_graph : FoFile → List GraphNode
file_graph f = graph_of (logic_of f) f.nodes

abbrev pub HasRightNodes : FoFile → Type 0
HasRightNodes f = AreRight (logic_of f) f.nodes

-- node v has this first fault, and no node before it has one
abbrev pub IsLeastFault : FoFile → ℕ → FoFault → Type 0
IsLeastFault f v fault = IsLeastFaultIn (logic_of f) f.nodes v fault

-- every node is right and every lasso progresses
abbrev pub IsCorrect : FoFile → Type 0
IsCorrect f = IsCorrectIn (logic_of f) f.nodes

-- the sequent of node 0 holds in every valuation, under the least meaning of the definitions
abbrev pub RootHolds : FoFile → Type 0
RootHolds f = (root : FoNode) → slice_get f.nodes 0 ≡ Some root → SequentHolds f.theory root.judgement

-- what each verdict says; the four exclude one another, so each comes exactly where what it says is true
abbrev pub IsVerdict : FoFile → FoVerdict → Type 0
IsVerdict f Accepted = IsCorrect f × HasAtMost (file_graph f) state_limit × RootHolds f
IsVerdict f (RuleRefused v fault) = IsLeastFault f v fault
IsVerdict f (PathRefused l) = HasRightNodes f × IsLasso (file_graph f) l × (Progresses (file_graph f) l → ⊥)
    × HasAtMost (file_graph f) state_limit
IsVerdict f TooManyStates = HasRightNodes f × HasMoreThan (file_graph f) state_limit
