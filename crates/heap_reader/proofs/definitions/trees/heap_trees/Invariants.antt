use Rattle.std.proofs.Common.{◌≡◌, take, map}
use Rattle.heap_syntax.specs.DefinitionTrees.{heap_of}
use Rattle.heap_reader.specs.Written.{heap_tree}
use Rattle.heap_reader.proofs.definitions.trees.heap_trees.Given as goal

abbrev pub invariant-loop-value : goal.invariant-loop-value
invariant-loop-value l = map heap_of l.trees.items ≡ map (heap_tree l.defs) (take l.value-index l.values)
