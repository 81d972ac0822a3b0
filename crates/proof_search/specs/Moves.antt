-- Partial derivations of a problem's goal.
use Rattle.std.specs.Prelude.{◌≡◌}
use Rattle.heap_formula.specs.declared.judgements.Judgement.{Judgement}
use Rattle.heap_formula.specs.declared.proof_rules.Reason.{Reason}
use Rattle.formula_reader.specs.declared.problem.Problem.{Problem}
use Rattle.derivations.specs.declared.derivation.Derivation.{Derivation}
use Rattle.derivations.specs.Derivations.{IsInOrder}
use Rattle.derivations.specs.Tableau.{Calculus}
use Rattle.search_moves.specs.Settings.{theory}
use Rattle.search_moves.specs.Trying.{Theory}
use Rattle.proof_search.specs.declared.logic.SeparationSearch.{SeparationSearch}
use Rattle.proof_search.specs.Calculus.{calculus_of, node_limit}
use Rattle.proof_search.specs.Outcomes.{theory_for}
use Rattle.proof_search.specs.Problems.{IsWithinLimits, MayGive}

-- the definitions and lines that the search assumes
abbrev pub theory_in : SeparationSearch → Theory
theory_in s = theory s.logic.defs.now s.logic.program.now

-- their calculus, and what may occur and be given in it
abbrev pub calculus_in : SeparationSearch → Calculus Judgement Reason
calculus_in s = calculus_of (theory_in s)

abbrev pub occurs_in : SeparationSearch → Judgement → Type 0
occurs_in s = IsWithinLimits (theory_in s)

abbrev pub allows_in : SeparationSearch → Reason → Type 0
allows_in s = MayGive (theory_in s)

-- a partial derivation in separation logic
abbrev pub Moves : Type 0
Moves = Derivation SeparationSearch Judgement Reason

-- the nodes, the goals and the graph are what the reasons make of the problem's goal
pub record IsOfProblem (problem : Problem) (moves : Moves) : Type 0 where
  pub order : IsInOrder calculus_in occurs_in allows_in moves
  pub theory : theory_in moves.logic ≡ theory_for problem
  pub limit : moves.limit ≡ node_limit
  pub root : moves.root ≡ problem.goal
