use Rattle.std.proofs.Common.{◌≡◌, max, drop, map}
use Rattle.heap_formula.specs.Words.{max_of}
use Rattle.heap_formula.specs.Fresh.{heap_bound}
use Rattle.counter_model.proofs.refuting.bound_of_heaps.Given as goal

abbrev pub invariant-loop-heap : goal.invariant-loop-heap
invariant-loop-heap l = max l.most (max_of (map heap_bound (drop l.heap-index l.heaps)))
    ≡ max_of (map heap_bound l.heaps)
