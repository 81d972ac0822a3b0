use Rattle.std.proofs.Common.{◌≡◌, ◌+◌, ◌-◌}
use Rattle.std.specs.Cmp.Lexicographic.{slice_cmp}
use Rattle.counter_model.specs.Sizes.{cell_cmp, rows, heap_cmp}
use Rattle.counter_model.proofs.orders.compare_heaps.Given as goal

abbrev pub invariant-loop-address : goal.invariant-loop-address
invariant-loop-address l = heap_cmp l.greatest l.x l.y
    ≡ slice_cmp cell_cmp (rows l.x l.address (l.greatest + 1 - l.address))
    (rows l.y l.address (l.greatest + 1 - l.address))
