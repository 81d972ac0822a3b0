-- Partial derivations in first-order logic.
use Rattle.std.specs.Prelude.{◌≡◌}
use Rattle.fo_formula.specs.declared.nodes.FoReason.{FoReason}
use Rattle.fo_formula.specs.declared.sequents.FoSequent.{FoSequent}
use Rattle.fo_file.specs.declared.values.problem.FoProblem.{FoProblem}
use Rattle.fo_logic.specs.Limits.{IsReasonWithin}
use Rattle.derivations.specs.Tableau.{Calculus}
use Rattle.derivations.specs.declared.derivation.Derivation.{Derivation}
use Rattle.derivations.specs.Derivations.{IsInOrder}
use Rattle.fo_search.specs.Calculus.{calculus_of, node_limit}
use Rattle.fo_search.specs.Occurring.{MayOccur}
use Rattle.fo_search.specs.declared.logic.FirstOrderSearch.{FirstOrderSearch}

-- the calculus of a theory, and what may occur and be given in it
abbrev pub calculus_in : FirstOrderSearch → Calculus FoSequent FoReason
calculus_in s = calculus_of s.logic.theory.now

abbrev pub occurs_in : FirstOrderSearch → FoSequent → Type 0
occurs_in s = MayOccur s.logic.theory.now

abbrev pub allows_in : FirstOrderSearch → FoReason → Type 0
allows_in s = IsReasonWithin s.logic.theory.now

-- a partial derivation in first-order logic
abbrev pub Moves : Type 0
Moves = Derivation FirstOrderSearch FoSequent FoReason

-- the nodes, the goals and the graph are what the reasons make of the problem's goal
pub record IsFirstOrder (problem : FoProblem) (moves : Moves) : Type 0 where
  pub order : IsInOrder calculus_in occurs_in allows_in moves
  pub theory : moves.logic.logic.theory.now ≡ problem.theory
  pub limit : moves.limit ≡ node_limit
  pub root : moves.root ≡ problem.goal
