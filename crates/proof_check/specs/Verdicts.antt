-- What a verdict says of a proof file.
use Rattle.std.specs.Prelude.{◌≡◌, ℕ, List, Some, slice_get}
use Rattle.heap_formula.specs.declared.judgements.Judgement.{Judgement}
use Rattle.heap_formula.specs.declared.proof_rules.Reason.{Reason}
use Rattle.heap_formula.specs.Judgements.{JudgementHolds}
use Rattle.heap_formula.specs.declared.proof_rules.RuleFault.{RuleFault}
use Rattle.trace_pairs.specs.Graph.{Node as GraphNode}
use Rattle.trace_pairs.specs.Lasso.{IsLasso, Progresses}
use Rattle.buchi_inclusion.specs.Answers.{HasAtMost, HasMoreThan}
pub use Rattle.buchi_inclusion.specs.Answers.{state_limit}
use Rattle.logics.specs.declared.verdict.Verdict.{Verdict as VerdictOn}
use Rattle.logics.specs.declared.verdict.Verdict.TheVariants.{Accepted, RuleRefused, PathRefused, TooManyStates}
use Rattle.logics.specs.Logics.{LogicValue}
use Rattle.logics.specs.Faults.{IsLeastFault as IsLeastFaultIn}
use Rattle.logics.specs.Verdicts.{IsCorrect as IsCorrectIn}
use Rattle.rule_book.specs.SeparationLogic.{separation_logic}
use Rattle.proof_file.specs.declared.file.ProofFile.{ProofFile}
use Rattle.proof_file.specs.FileNodes.{FileNode}
use Rattle.proof_check.specs.Files.{graph_of, AreRight}

abbrev pub Verdict : Type 0
Verdict = VerdictOn RuleFault

-- separation logic over the file's definitions and program
abbrev pub logic_of : ProofFile → LogicValue Judgement Reason RuleFault
logic_of f = separation_logic f.defs.most f.defs.list f.program

abbrev pub file_graph : ProofFile → List GraphNode
file_graph f = graph_of f.defs.most f.defs.list f.program f.nodes

abbrev pub HasRightNodes : ProofFile → Type 0
HasRightNodes f = AreRight f.defs.most f.defs.list f.program f.nodes

-- node v has this first fault, and no node before it has one
abbrev pub IsLeastFault : ProofFile → ℕ → RuleFault → Type 0
IsLeastFault f v fault = IsLeastFaultIn (logic_of f) f.nodes v fault

-- every node is right and every lasso progresses
abbrev pub IsCorrect : ProofFile → Type 0
IsCorrect f = IsCorrectIn (logic_of f) f.nodes

-- the judgement of node 0 holds
abbrev pub RootHolds : ProofFile → Type 0
RootHolds f = (root : FileNode) → slice_get f.nodes 0 ≡ Some root → JudgementHolds f.defs.list f.program root.judgement

-- what each verdict says; the four exclude one another, so each comes exactly where what it says is true
abbrev pub IsVerdict : ProofFile → Verdict → Type 0
IsVerdict f Accepted = IsCorrect f × HasAtMost (file_graph f) state_limit × RootHolds f
IsVerdict f (RuleRefused v fault) = IsLeastFault f v fault
IsVerdict f (PathRefused l) = HasRightNodes f × IsLasso (file_graph f) l × (Progresses (file_graph f) l → ⊥)
    × HasAtMost (file_graph f) state_limit
IsVerdict f TooManyStates = HasRightNodes f × HasMoreThan (file_graph f) state_limit
