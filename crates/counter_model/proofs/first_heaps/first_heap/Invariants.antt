use Rattle.std.proofs.Common.{◌⊎◌, drop}
use Rattle.heap_formula.specs.Cells.{Cells}
use Rattle.cyc_basics.specs.Words.{IsMember}
use Rattle.counter_model.specs.FirstCounter.{IsCounter}
use Rattle.counter_model.specs.Leading.{IsHeapFor, IsLed}
use Rattle.counter_model.proofs.first_heaps.first_heap.Given as goal

abbrev pub invariant-loop-heap : goal.invariant-loop-heap
invariant-loop-heap l = record {
  counter : IsHeapFor l.greatest l.defs.list l.antecedent l.disjuncts l.stack l.leader;
  first : (g : Cells) → IsCounter l.defs.list l.antecedent l.disjuncts l.stack g → IsMember g l.heap-items
      → IsLed l.greatest l.leader g ⊎ IsMember g (drop l.heap-index l.heap-items);
}
