use Rattle.std.proofs.Common.{◌≡◌, ◌≤◌, map, drop}
use Rattle.std.specs.Prelude.{max}
use Rattle.heap_formula.specs.Words.{max_of}
use Rattle.heap_formula.specs.Fresh.{heap_numbers}
use Rattle.search_moves.proofs.faults.numbers_in_heaps.Given as goal

abbrev pub invariant-loop-heap : goal.invariant-loop-heap
invariant-loop-heap l = (l.most ≤ 65536) × (max l.most (max_of (map heap_numbers (drop l.heap-index l.heaps)))
    ≡ max_of (map heap_numbers l.heaps))
