-- What a verdict says of a proof.
use Rattle.std.specs.Prelude.{ℕ, ◌≡◌, List, Some, slice_get}
use Rattle.trace_pairs.specs.Lasso.{IsLasso, Progresses, AllProgress}
use Rattle.buchi_inclusion.specs.Answers.{HasAtMost, HasMoreThan}
pub use Rattle.buchi_inclusion.specs.Answers.{state_limit}
use Rattle.logics.specs.declared.node.ProofNode.{ProofNode}
use Rattle.logics.specs.declared.verdict.Verdict.{Verdict}
use Rattle.logics.specs.declared.verdict.Verdict.TheVariants.{Accepted, RuleRefused, PathRefused, TooManyStates}
use Rattle.logics.specs.Logics.{LogicValue}
use Rattle.logics.specs.Faults.{AreRight, IsLeastFault}
use Rattle.logics.specs.Graphs.{graph_of}

-- every node is right and every lasso progresses
pub record IsCorrect {J R F : Type 0} (c : LogicValue J R F) (proof : List (ProofNode J R)) : Type 0 where
  pub nodes : AreRight c proof
  pub paths : AllProgress (graph_of c proof)

-- the judgement of node 0 holds at all stages
abbrev pub RootHolds : {J R : Type 0} → ((ℕ → ℕ) → J → Type 0) → List (ProofNode J R) → Type 0
RootHolds {J} {R} Holds nodes = (root : ProofNode J R) → slice_get nodes 0 ≡ Some root → (σ : ℕ → ℕ)
    → Holds σ root.judgement

-- what each verdict says; the four exclude one another, so each comes exactly where what it says is true
abbrev pub IsVerdict : {J R F : Type 0} → LogicValue J R F → ((ℕ → ℕ) → J → Type 0) → List (ProofNode J R) → Verdict F
    → Type 0
IsVerdict c Holds nodes Accepted = IsCorrect c nodes × HasAtMost (graph_of c nodes) state_limit × RootHolds Holds nodes
IsVerdict c Holds nodes (RuleRefused v fault) = IsLeastFault c nodes v fault
IsVerdict c Holds nodes (PathRefused l) =
    AreRight c nodes × IsLasso (graph_of c nodes) l × (Progresses (graph_of c nodes) l → ⊥)
    × HasAtMost (graph_of c nodes) state_limit
IsVerdict c Holds nodes TooManyStates = AreRight c nodes × HasMoreThan (graph_of c nodes) state_limit
