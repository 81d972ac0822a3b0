use Rattle.std.proofs.Common.{◌≡◌, take, map}
use Rattle.fo_syntax.specs.ProblemTrees.{constructor_of}
use Rattle.fo_file.specs.Written.{constructor_tree}
use Rattle.fo_file.proofs.values.theory_trees.constructors.Given as goal

abbrev pub invariant-loop-value : goal.invariant-loop-value
invariant-loop-value l = map constructor_of l.trees.items ≡ map constructor_tree (take l.value-index l.values)
