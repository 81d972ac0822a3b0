-- What is kept of ends as they are read.
use Rattle.heap_syntax.specs.declared.keep.Keep.{Keep}
use Rattle.heap_syntax.specs.Keeping.{heaps_front}
use Rattle.heap_syntax.specs.EndTrees.{End}

abbrev pub end_front : {T : Type 0} → Keep → End T → End T
end_front k e = record { number = e.number; disjuncts = heaps_front k e.disjuncts }
