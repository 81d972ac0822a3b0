use Rattle.std.proofs.Common.{◌⊎◌, drop}
use Rattle.heap_formula.specs.Words.{OneOf}
use Rattle.heap_formula.specs.Cells.{Cells}
use Rattle.counter_model.specs.Bounds.{IsAmong, Unites}
use Rattle.counter_model.proofs.heaps.combining.add_unions.Given as goal

abbrev pub invariant-loop-rest : goal.invariant-loop-rest
invariant-loop-rest l =
    (h : Cells) → (IsAmong l.greatest l.initial.out h ⊎ OneOf (λ r. Unites l.greatest l.part r h) l.others)
    → IsAmong l.greatest l.out h ⊎ OneOf (λ r. Unites l.greatest l.part r h) (drop l.rest-index l.others)
