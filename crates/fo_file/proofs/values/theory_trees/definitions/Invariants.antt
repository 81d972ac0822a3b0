use Rattle.std.proofs.Common.{◌≡◌, take, map}
use Rattle.fo_syntax.specs.ProblemTrees.{definition_of}
use Rattle.fo_file.specs.Written.{definition_tree}
use Rattle.fo_file.proofs.values.theory_trees.definitions.Given as goal

abbrev pub invariant-loop-value : goal.invariant-loop-value
invariant-loop-value l = map definition_of l.trees.items ≡ map (definition_tree l.theory) (take l.value-index l.values)
