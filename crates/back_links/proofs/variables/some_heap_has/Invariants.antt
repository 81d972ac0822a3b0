use Rattle.std.proofs.Common.{◌≡◌, drop}
use Rattle.std.specs.List.{list_any}
use Rattle.back_links.specs.Listing.{stands_in_heap}
use Rattle.back_links.proofs.variables.some_heap_has.Given as goal

abbrev pub invariant-loop-heap : goal.invariant-loop-heap
invariant-loop-heap l = list_any (stands_in_heap l.n) (drop l.heap-index l.heaps)
    ≡ list_any (stands_in_heap l.n) l.heaps
