use Rattle.std.proofs.Common.{◌≡◌, ◌++◌, ◌∷◌, [], Some, drop, length, if◌then◌else◌}
use Rattle.rule_table.specs.Tests.{has_number}
use Rattle.search_moves.specs.Places.{each_from}
use Rattle.search_moves.specs.Folds.{fold_by, placed, bind_atom}
use Rattle.search_moves.proofs.folds.placing.+place_atoms.Given as goal

abbrev pub decreases-place_atoms : goal.decreases-place_atoms
decreases-place_atoms l = length l.atoms.now

abbrev pub invariant-loop-i : goal.invariant-loop-i
invariant-loop-i l =
    l.rules.items ++ each_from (λ i y. if has_number l.places i then [] else placed
    (fold_by l.fold.state.now l.fold.predicate l.fold.arity l.fold.case.now) l.fold.state.now.spatial l.rest
    (l.places ++ i ∷ []) (bind_atom l.binding l.atom y)) l.i (drop l.i l.fold.state.now.spatial)
    ≡ l.initial.rules.items ++ placed (fold_by l.fold.state.now l.fold.predicate l.fold.arity l.fold.case.now)
    l.fold.state.now.spatial (l.atom ∷ l.rest) l.places (Some l.binding)
