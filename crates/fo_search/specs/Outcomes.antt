-- What the answers of the prover say.
use Rattle.std.specs.Prelude.{◌≡◌, ◌≤◌, ℕ, List, length, map, Some, slice_get}
use Rattle.cyc_basics.specs.declared.limits.TheConstants.{MOST_NODES}
use Rattle.fo_formula.specs.declared.nodes.FoFile.{FoFile}
use Rattle.fo_formula.specs.Nodes.{FoNode}
use Rattle.fo_formula.specs.declared.nodes.FoReason.{FoReason}
use Rattle.fo_formula.specs.declared.sequents.FoSequent.{FoSequent}
use Rattle.heap_formula.specs.Words.{Each}
use Rattle.derivations.specs.System.{System, Outcome, IsFound, IsNotFound, HasTooManyDerivations, HasTooManyStates}
use Rattle.derivations.specs.Firsts.{FirstFound}
use Rattle.buchi_inclusion.specs.Answers.{HasAtMost}
use Rattle.derivations.specs.Tableau.{Tableau, replay}
use Rattle.fo_file.specs.declared.values.problem.FoProblem.{FoProblem}
use Rattle.fo_logic.specs.Verdicts.{file_graph, state_limit, IsCorrect, RootHolds}
use Rattle.fo_logic.specs.Limits.{IsNodeWithin}
use Rattle.fo_search.specs.Calculus.{calculus_of, search_system}
use Rattle.fo_search.specs.Files.{proof_nodes}
use Rattle.derivations.specs.declared.found.searching.Proved.{Proved}
use Rattle.derivations.specs.declared.found.searching.Proved.TheVariants as searched
use Rattle.fo_formula.specs.declared.theory.FoTheory.{FoTheory}
use Rattle.fo_search.specs.declared.prover.FoProved.{FoProved}
use Rattle.fo_search.specs.declared.prover.FoProved.TheVariants.{Found, NotFound, TooManyDerivations, TooManyStates}

-- the search for a proof of a problem's goal
abbrev pub search_for : FoProblem → System FoReason
search_for problem = search_system problem.theory problem.goal

-- the reasons of a proof's nodes
abbrev pub reasons_of : FoFile → List FoReason
reasons_of f = map (λ (n : FoNode). n.reason) f.nodes

-- how the search ends that has this answer
abbrev pub outcome_of : FoProved → Outcome FoReason
outcome_of (Found f) = IsFound (reasons_of f)
outcome_of NotFound = IsNotFound
outcome_of TooManyDerivations = HasTooManyDerivations
outcome_of TooManyStates = HasTooManyStates

-- a correct proof of the problem's goal, which holds; its nodes are what its reasons make of the goal, and within the
-- limits of a file
pub record IsProofFor (problem : FoProblem) (f : FoFile) : Type 0 where
  pub theory : f.theory ≡ problem.theory
  pub tableau : Tableau FoSequent FoReason
  pub made : replay (calculus_of problem.theory) problem.goal (reasons_of f) ≡ Some tableau
  pub nodes : f.nodes ≡ proof_nodes tableau
  pub root : FoNode
  pub is_root : slice_get f.nodes 0 ≡ Some root
  pub goal : root.judgement ≡ problem.goal
  pub within : Each (IsNodeWithin problem.theory) f.nodes
  pub few : length f.nodes ≤ MOST_NODES
  pub correct : IsCorrect f
  pub states : HasAtMost (file_graph f) state_limit
  pub holds : RootHolds f

-- what is found is a proof
abbrev pub IsProved : FoProblem → FoProved → Type 0
IsProved problem (Found f) = IsProofFor problem f
IsProved problem _ = Unit {0}

-- what is found within this depth is the first complete derivation of the least depth that has one
abbrev pub IsFirst : FoProblem → ℕ → FoProved → Type 0
IsFirst problem depth (Found f) = FirstFound (search_for problem) 1 depth (reasons_of f)
IsFirst problem depth _ = Unit {0}

-- what a search came to, with its nodes as a file over the theory
abbrev pub IsOver : FoTheory → Proved FoSequent FoReason → FoProved → Type 0
IsOver t (searched.Found nodes) (Found f) = (f.theory ≡ t) × (f.nodes ≡ nodes.items)
IsOver t searched.NotFound NotFound = Unit {0}
IsOver t searched.TooManyDerivations TooManyDerivations = Unit {0}
IsOver t searched.TooManyStates TooManyStates = Unit {0}
IsOver t _ _ = ⊥
