-- What the answers of the prover say.
use Rattle.std.specs.Prelude.{◌≡◌, ◌<◌, ◌≤◌, ℕ, List, length, map, Some, slice_get}
use Rattle.cyc_basics.specs.declared.limits.TheConstants.{MOST_NODES}
use Rattle.heap_formula.specs.declared.proof_rules.Reason.{Reason}
use Rattle.derivations.specs.System.{System, Outcome, IsFound, IsNotFound, HasTooManyDerivations, HasTooManyStates}
use Rattle.derivations.specs.Firsts.{FirstFound}
use Rattle.buchi_inclusion.specs.Answers.{HasAtMost}
use Rattle.formula_reader.specs.declared.problem.Problem.{Problem}
use Rattle.proof_file.specs.declared.file.ProofFile.{ProofFile}
use Rattle.proof_file.specs.FileNodes.{FileNode}
use Rattle.formula_reader.specs.Nodes.{IsNodeWithin}
use Rattle.heap_formula.specs.Words.{Each}
use Rattle.proof_check.specs.Verdicts.{file_graph, state_limit, IsCorrect, RootHolds}
use Rattle.search_moves.specs.Settings.{theory}
use Rattle.search_moves.specs.Trying.{Theory}
use Rattle.heap_formula.specs.declared.judgements.Judgement.{Judgement}
use Rattle.derivations.specs.Tableau.{Tableau, replay}
use Rattle.derivations.specs.declared.found.searching.Proved.{Proved as ProvedBy}
use Rattle.derivations.specs.declared.found.searching.Proved.TheVariants as searched
use Rattle.proof_search.specs.Calculus.{calculus_of, search_system}
use Rattle.proof_search.specs.Found.{nodes_made}
use Rattle.proof_search.specs.declared.prover.Proved.{Proved}
use Rattle.proof_search.specs.declared.prover.Proved.TheVariants.{Found, NotFound, TooManyDerivations, TooManyStates}

-- the definitions and lines of a problem
abbrev pub theory_for : Problem → Theory
theory_for problem = theory problem.defs problem.program

-- the search for a proof of a problem's goal
abbrev pub search_for : Problem → System Reason
search_for problem = search_system (theory_for problem) problem.goal

-- the reasons of a file's nodes
abbrev pub reasons_of : ProofFile → List Reason
reasons_of f = map (λ (n : FileNode). n.reason) f.nodes

-- how the search ends that has this answer
abbrev pub outcome_of : Proved → Outcome Reason
outcome_of (Found f) = IsFound (reasons_of f)
outcome_of NotFound = IsNotFound
outcome_of TooManyDerivations = HasTooManyDerivations
outcome_of TooManyStates = HasTooManyStates

-- a correct proof of the problem's goal, which holds; its nodes are what its reasons make of the goal
pub record IsProofFor (problem : Problem) (f : ProofFile) : Type 0 where
  pub version : f.version ≡ problem.version
  pub definitions : f.defs ≡ problem.defs
  pub program : f.program ≡ problem.program
  pub tableau : Tableau Judgement Reason
  pub made : replay (calculus_of (theory_for problem)) problem.goal (reasons_of f) ≡ Some tableau
  pub nodes : f.nodes ≡ nodes_made tableau
  pub root : FileNode
  pub is_root : slice_get f.nodes 0 ≡ Some root
  pub goal : root.judgement ≡ problem.goal
  pub correct : IsCorrect f
  pub states : HasAtMost (file_graph f) state_limit
  pub holds : RootHolds f

-- what is found is a proof
abbrev pub IsProved : Problem → Proved → Type 0
IsProved problem (Found f) = IsProofFor problem f
IsProved problem NotFound = Unit {0}
IsProved problem TooManyDerivations = Unit {0}
IsProved problem TooManyStates = Unit {0}

-- what is found within this depth is the first complete derivation of the least depth that has one
abbrev pub IsFirst : Problem → ℕ → Proved → Type 0
IsFirst problem depth (Found f) = FirstFound (search_for problem) 1 depth (reasons_of f)
IsFirst problem depth NotFound = Unit {0}
IsFirst problem depth TooManyDerivations = Unit {0}
IsFirst problem depth TooManyStates = Unit {0}

-- what a search came to, with its nodes as a file of the problem
pub record IsFileOf (problem : Problem) (found : List FileNode) (f : ProofFile) : Type 0 where
  pub version : f.version ≡ problem.version
  pub definitions : f.defs ≡ problem.defs
  pub program : f.program ≡ problem.program
  pub nodes : f.nodes ≡ found

abbrev pub IsOver : Problem → ProvedBy Judgement Reason → Proved → Type 0
IsOver problem (searched.Found nodes) (Found f) = IsFileOf problem nodes.items f
IsOver problem searched.NotFound NotFound = Unit {0}
IsOver problem searched.TooManyDerivations TooManyDerivations = Unit {0}
IsOver problem searched.TooManyStates TooManyStates = Unit {0}
IsOver problem _ _ = ⊥

-- the nodes that were found may stand in a file of the problem
abbrev pub MayStandIn : Problem → ProvedBy Judgement Reason → Type 0
MayStandIn problem (searched.Found nodes) = (0 < length nodes.items) × (length nodes.items ≤ MOST_NODES)
    × Each (IsNodeWithin problem.defs.most problem.defs.list (length problem.program)) nodes.items
MayStandIn problem _ = Unit {0}
