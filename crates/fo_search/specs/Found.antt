-- What a search finds, as a proof.
use Rattle.std.specs.Prelude.{◌≡◌, ◌≤◌, List, [], Some, length}
use Rattle.cyc_basics.specs.declared.limits.TheConstants.{MOST_NODES}
use Rattle.heap_formula.specs.Words.{Each}
use Rattle.fo_formula.specs.declared.nodes.FoReason.{FoReason}
use Rattle.fo_formula.specs.declared.sequents.FoSequent.{FoSequent}
use Rattle.fo_formula.specs.declared.theory.FoTheory.{FoTheory}
use Rattle.fo_formula.specs.Nodes.{FoNode}
use Rattle.fo_logic.specs.Limits.{IsNodeWithin}
use Rattle.fo_logic.specs.FirstOrder.{first_order}
use Rattle.derivations.specs.Tableau.{Tableau, replay}
use Rattle.derivations.specs.Found.{IsProof}
use Rattle.fo_search.specs.Calculus.{calculus_of}
use Rattle.fo_search.specs.Files.{proof_nodes}

-- the nodes are a correct proof of the goal that has few product states, within the limits of a file
pub record AreProof (t : FoTheory) (goal : FoSequent) (nodes : List FoNode) : Type 0 where
  pub proof : IsProof (first_order t) goal nodes
  pub within : Each (IsNodeWithin t) nodes
  pub few : length nodes ≤ MOST_NODES

-- the reasons make a proof of the goal, with no goal left open
pub record MakesProof (t : FoTheory) (goal : FoSequent) (reasons : List FoReason) : Type 0 where
  pub tableau : Tableau FoSequent FoReason
  pub made : replay (calculus_of t) goal reasons ≡ Some tableau
  pub closed : tableau.goals ≡ []
  pub proof : AreProof t goal (proof_nodes tableau)
