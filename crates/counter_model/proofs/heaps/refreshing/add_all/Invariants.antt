use Rattle.std.proofs.Common.{◌⊎◌, drop}
use Rattle.heap_formula.specs.Cells.{Cells}
use Rattle.counter_model.specs.Bounds.{IsAmong}
use Rattle.counter_model.specs.Findings.{IsFound, UnlessGrown}
use Rattle.counter_model.proofs.heaps.refreshing.add_all.Given as goal

abbrev pub invariant-loop-heap : goal.invariant-loop-heap
invariant-loop-heap l =
    UnlessGrown l.grown l.initial.table l.table ((h : Cells) → IsAmong l.greatest l.heaps h
    → IsFound l.greatest l.initial.table l.q h ⊎ IsAmong l.greatest (drop l.heap-index l.heaps) h)
