-- What comes of a search for a proof.
use Rattle.std.specs.Prelude.{◌≡◌, List, map, Some}
use Rattle.derivations.specs.System.{Outcome, IsFound, IsNotFound, HasTooManyDerivations, HasTooManyStates}
use Rattle.logics.specs.declared.node.ProofNode.{ProofNode}
use Rattle.logics.specs.Logics.{LogicValue}
use Rattle.derivations.specs.Tableau.{Tableau, Calculus, replay}
use Rattle.derivations.specs.Found.{IsProof}
use Rattle.derivations.specs.LogicNodes.{proof_nodes}
use Rattle.derivations.specs.declared.found.searching.Proved.{Proved}
use Rattle.derivations.specs.declared.found.searching.Proved.TheVariants.{Found, NotFound, TooManyDerivations, TooManyStates}

-- the reasons of a proof's nodes
abbrev pub reasons_of : {J R : Type 0} → List (ProofNode J R) → List R
reasons_of {J} {R} nodes = map (λ (n : ProofNode J R). n.reason) nodes

-- how the search ends that comes to this
abbrev pub outcome_of : {J R : Type 0} → Proved J R → Outcome R
outcome_of (Found nodes) = IsFound (reasons_of nodes.items)
outcome_of NotFound = IsNotFound
outcome_of TooManyDerivations = HasTooManyDerivations
outcome_of TooManyStates = HasTooManyStates

-- the nodes are what their reasons make of the goal, and a correct proof of it with few product states
pub record IsFoundProof {J R F : Type 0} (c : LogicValue J R F) (k : Calculus J R) (goal : J)
    (nodes : List (ProofNode J R)) : Type 0 where
  pub tableau : Tableau J R
  pub made : replay k goal (reasons_of nodes) ≡ Some tableau
  pub are : nodes ≡ proof_nodes c.target tableau
  pub proof : IsProof c goal nodes

-- what is found is a proof
abbrev pub IsProved : {J R F : Type 0} → LogicValue J R F → Calculus J R → J → Proved J R → Type 0
IsProved c k goal (Found nodes) = IsFoundProof c k goal nodes.items
IsProved c k goal _ = Unit {0}
