use Rattle.std.proofs.Common.{◌≡◌, take, map}
use Rattle.heap_syntax.specs.DefinitionTrees.{definition_of}
use Rattle.heap_reader.specs.Written.{definition_tree}
use Rattle.heap_reader.proofs.definitions.trees.definition_trees.Given as goal

abbrev pub invariant-loop-value : goal.invariant-loop-value
invariant-loop-value l = map definition_of l.trees.items ≡ map (definition_tree l.defs) (take l.value-index l.defs)
