use Rattle.std.proofs.Common.{◌↔◌, drop}
use Rattle.counter_model.specs.Bounds.{AreAtMost}
use Rattle.counter_model.proofs.heaps.small_heaps.are_at_most.Given as goal

abbrev pub invariant-loop-value : goal.invariant-loop-value
invariant-loop-value l = AreAtMost l.greatest l.values ↔ AreAtMost l.greatest (drop l.value-index l.values)
