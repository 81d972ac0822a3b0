use Rattle.std.proofs.Common.{◌≡◌, drop, take, map}
use Rattle.heap_formula.specs.Words.{Each}
use Rattle.heap_reader.specs.Trees.{spatial_of}
use Rattle.heap_reader.specs.Small.{IsSmallSpatial}
use Rattle.heap_reader.specs.Values.{spatial_value}
use Rattle.heap_reader.proofs.values.spatial_atoms.Given as goal

abbrev pub invariant-loop-tree : goal.invariant-loop-tree
invariant-loop-tree g l =
    (l.atoms.items ≡ map (spatial_value g.F.TermReader.value l.heads) (map spatial_of (take l.tree-index l.trees)))
    × Each (IsSmallSpatial g.F.TermReader.value) (map spatial_of (drop l.tree-index l.trees))
