use Rattle.std.proofs.Common.{map, take}
use Rattle.heap_reader.specs.Trees.{heading_of}
use Rattle.heap_reader.specs.Indexes.{IsIndex}
use Rattle.heap_reader.proofs.head.first_places.Given as goal

abbrev pub invariant-loop-i : goal.invariant-loop-i
invariant-loop-i l = IsIndex (map heading_of (take l.i l.list)) l.places.entries
