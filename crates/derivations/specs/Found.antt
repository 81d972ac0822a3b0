-- What a search finds, as a proof.
use Rattle.std.specs.Prelude.{◌≡◌, ℕ, true, List, Some, slice_get}
use Rattle.buchi_inclusion.specs.Answers.{HasAtMost, state_limit}
use Rattle.derivations.specs.System.{search_of, IsFound}
use Rattle.logics.specs.declared.node.ProofNode.{ProofNode}
use Rattle.logics.specs.Logics.{LogicValue}
use Rattle.logics.specs.Graphs.{graph_of}
use Rattle.logics.specs.Verdicts.{IsCorrect}
use Rattle.derivations.specs.Tableau.{Tableau, Calculus, replay}
use Rattle.derivations.specs.Search.{system_of}
use Rattle.derivations.specs.Fair.{IsFair}
use Rattle.derivations.specs.Calculus.{calculus_with}
use Rattle.derivations.specs.LogicNodes.{proof_nodes}

-- the nodes are a correct proof of the goal that has few product states, as a check accepts it
pub record IsProof {J R F : Type 0} (c : LogicValue J R F) (goal : J) (nodes : List (ProofNode J R)) : Type 0 where
  pub root : ProofNode J R
  pub is_root : slice_get nodes 0 ≡ Some root
  pub proves : root.judgement ≡ goal
  pub correct : IsCorrect c nodes
  pub states : HasAtMost (graph_of c nodes) state_limit

-- the calculus is that of the logic, with some offers, and is in order; a judgement is itself
pub record IsSearchOf {J R F : Type 0} (c : LogicValue J R F) (k : Calculus J R) (Occurs : J → Type 0)
    (Allows : R → Type 0) : Type 0 where
  pub is : k ≡ calculus_with c k.links k.rules
  pub fair : IsFair k Occurs Allows
  pub itself : (j : J) → c.same j j ≡ true

-- what a search finds for a judgement that may occur makes the nodes of a proof of it
abbrev pub EachIsProof : {J R F : Type 0} → LogicValue J R F → Calculus J R → (J → Type 0) → Type 0
EachIsProof {J} {R} c k Occurs =
    (limit most depth : ℕ) (j : J) (d : List R) (b : Tableau J R) → Occurs j
    → search_of (system_of k limit state_limit j) most depth ≡ IsFound d → replay k j d ≡ Some b
    → IsProof c j (proof_nodes c.target b)
