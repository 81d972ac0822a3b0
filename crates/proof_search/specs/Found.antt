-- What a search finds, as a proof.
use Rattle.std.specs.Prelude.{◌≡◌, ◌≤◌, List, [], Some, length}
use Rattle.cyc_basics.specs.declared.limits.TheConstants.{MOST_NODES}
use Rattle.heap_formula.specs.declared.judgements.Judgement.{Judgement}
use Rattle.heap_formula.specs.declared.proof_rules.Reason.{Reason}
use Rattle.heap_formula.specs.Words.{Each}
use Rattle.proof_file.specs.FileNodes.{FileNode}
use Rattle.rule_book.specs.SeparationLogic.{target_of}
use Rattle.formula_reader.specs.Nodes.{IsNodeWithin}
use Rattle.derivations.specs.Found.{IsProof}
use Rattle.derivations.specs.LogicNodes.{proof_nodes}
use Rattle.derivations.specs.Tableau.{Tableau, replay}
use Rattle.search_moves.specs.Trying.{Theory}
use Rattle.proof_search.specs.Calculus.{logic_over, calculus_of}

-- the nodes of a derivation without open goals
abbrev pub nodes_made : Tableau Judgement Reason → List FileNode
nodes_made tableau = proof_nodes target_of tableau

-- the nodes are a correct proof of the goal that has few product states, and may stand in a file
pub record AreProof (t : Theory) (goal : Judgement) (nodes : List FileNode) : Type 0 where
  pub proof : IsProof (logic_over t) goal nodes
  pub within : Each (IsNodeWithin t.most t.definitions (length t.lines)) nodes
  pub few : length nodes ≤ MOST_NODES

-- the reasons make a proof of the goal, with no goal left open
pub record MakesProof (t : Theory) (goal : Judgement) (reasons : List Reason) : Type 0 where
  pub tableau : Tableau Judgement Reason
  pub made : replay (calculus_of t) goal reasons ≡ Some tableau
  pub closed : tableau.goals ≡ []
  pub proof : AreProof t goal (nodes_made tableau)
