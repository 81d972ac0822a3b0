use Rattle.std.proofs.Common.{◌≡◌, drop, take, map}
use Rattle.heap_formula.specs.Words.{Each}
use Rattle.fo_syntax.specs.ProblemTrees.{definition_of}
use Rattle.fo_file.specs.Known.{IsKnownDefinition}
use Rattle.fo_file.specs.Values.{definition_value}
use Rattle.fo_file.proofs.values.theory_values.definitions.Given as goal

abbrev pub invariant-loop-tree : goal.invariant-loop-tree
invariant-loop-tree l =
    (l.definitions.items ≡ map (definition_value l.constructors l.predicates)
    (map definition_of (take l.tree-index l.trees))) × Each (IsKnownDefinition l.constructors l.predicates)
    (map definition_of (drop l.tree-index l.trees))
