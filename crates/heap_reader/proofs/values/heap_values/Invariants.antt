use Rattle.std.proofs.Common.{◌≡◌, drop, take, map}
use Rattle.heap_formula.specs.Words.{Each}
use Rattle.heap_reader.specs.Trees.{heap_of}
use Rattle.heap_reader.specs.Small.{IsSmallHeap}
use Rattle.heap_reader.specs.Values.{heap_value}
use Rattle.heap_reader.proofs.values.heap_values.Given as goal

abbrev pub invariant-loop-tree : goal.invariant-loop-tree
invariant-loop-tree g l =
    (l.heaps.items ≡ map (heap_value g.F.TermReader.value l.heads) (map heap_of (take l.tree-index l.trees)))
    × Each (IsSmallHeap g.F.TermReader.value) (map heap_of (drop l.tree-index l.trees))
