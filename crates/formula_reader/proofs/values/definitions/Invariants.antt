use Rattle.std.proofs.Common.{◌≡◌, drop, take, map}
use Rattle.heap_formula.specs.Words.{Each}
use Rattle.problem_syntax.specs.Numbered.{definition_of}
use Rattle.formula_reader.specs.Small.{IsSmallDefinition}
use Rattle.formula_reader.specs.Values.{definition_value}
use Rattle.formula_reader.proofs.values.definitions.Given as goal

abbrev pub invariant-loop-tree : goal.invariant-loop-tree
invariant-loop-tree l =
    (l.made.items ≡ map (definition_value l.heads) (map definition_of (take l.tree-index l.trees)))
    × Each IsSmallDefinition (map definition_of (drop l.tree-index l.trees))
