use Rattle.std.proofs.Common.{◌⊎◌, drop}
use Rattle.heap_formula.specs.Words.{OneOf}
use Rattle.heap_formula.specs.Cells.{Cells}
use Rattle.counter_model.specs.Bounds.{IsAmong, Unites}
use Rattle.counter_model.proofs.heaps.combining.combine.Given as goal

abbrev pub invariant-loop-part : goal.invariant-loop-part
invariant-loop-part l =
    (h : Cells) → OneOf (λ p. OneOf (λ r. Unites l.greatest p r h) l.others) l.parts
    → IsAmong l.greatest l.out h ⊎ OneOf (λ p. OneOf (λ r. Unites l.greatest p r h) l.others)
    (drop l.part-index l.parts)
