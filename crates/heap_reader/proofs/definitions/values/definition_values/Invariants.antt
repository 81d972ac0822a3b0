use Rattle.std.proofs.Common.{◌≡◌, drop, take, map}
use Rattle.heap_formula.specs.Words.{Each}
use Rattle.heap_syntax.specs.DefinitionTrees.{definition_of}
use Rattle.heap_reader.specs.DefinitionSmall.{IsSmallDefinition}
use Rattle.heap_reader.specs.DefinitionValues.{definition_value}
use Rattle.heap_reader.proofs.definitions.values.definition_values.Given as goal

abbrev pub invariant-loop-tree : goal.invariant-loop-tree
invariant-loop-tree l =
    (l.made.items ≡ map (definition_value l.heads) (map definition_of (take l.tree-index l.trees)))
    × Each IsSmallDefinition (map definition_of (drop l.tree-index l.trees))
