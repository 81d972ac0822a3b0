use Rattle.std.proofs.Common.{◌⊎◌, drop}
use Rattle.counter_model.specs.Bounds.{IsAmong}
use Rattle.counter_model.proofs.heaps.combining.has_heap.Given as goal

abbrev pub invariant-loop-known : goal.invariant-loop-known
invariant-loop-known l = IsAmong l.greatest l.heaps l.heap → ⊥ ⊎ IsAmong l.greatest (drop l.known-index l.heaps) l.heap
