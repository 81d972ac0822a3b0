use Rattle.std.proofs.Common.{◌≡◌, take, map}
use Rattle.heap_syntax.specs.DefinitionTrees.{spatial_of}
use Rattle.heap_reader.specs.Written.{spatial_tree}
use Rattle.heap_reader.proofs.definitions.trees.spatial_atoms.Given as goal

abbrev pub invariant-loop-value : goal.invariant-loop-value
invariant-loop-value l = map spatial_of l.trees.items ≡ map (spatial_tree l.defs) (take l.value-index l.values)
