use Rattle.std.proofs.Common.{◌⊎◌, drop}
use Rattle.heap_formula.specs.Words.{Each}
use Rattle.heap_formula.specs.Cells.{Cells}
use Rattle.cyc_basics.specs.Words.{IsMember}
use Rattle.counter_model.specs.Bounds.{IsWithin, IsAmong}
use Rattle.counter_model.proofs.heaps.fitting.fitting_heaps.Given as goal

abbrev pub invariant-loop-heap : goal.invariant-loop-heap
invariant-loop-heap l = record {
  complete : (h : Cells) → IsWithin l.greatest h → IsAmong l.greatest l.heap-items h
      → IsMember h l.out.items ⊎ IsAmong l.greatest (drop l.heap-index l.heap-items) h;
  within : Each (IsWithin l.greatest) l.out.items;
}
