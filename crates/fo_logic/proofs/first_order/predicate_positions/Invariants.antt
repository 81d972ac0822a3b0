use Rattle.std.proofs.Common.{◌≡◌, ◌++◌, drop}
use Rattle.fo_logic.specs.FirstOrder.{predicate_places}
use Rattle.fo_logic.proofs.first_order.predicate_positions.Given as goal

abbrev pub invariant-loop-place : goal.invariant-loop-place
invariant-loop-place l = l.positions.items ++ predicate_places l.place (drop l.place l.atoms)
    ≡ predicate_places 0 l.atoms
