use Rattle.std.proofs.Common.{◌≡◌, ◌++◌, drop}
use Rattle.search_moves.specs.Places.{each_from}
use Rattle.search_moves.specs.Folds.{place_if, ascending}
use Rattle.search_moves.proofs.folds.cases.ascending.Given as goal

abbrev pub invariant-loop-i : goal.invariant-loop-i
invariant-loop-i l = l.kept.items ++ each_from (λ i x. place_if l.places i) l.i (drop l.i l.atoms)
    ≡ ascending l.atoms l.places
