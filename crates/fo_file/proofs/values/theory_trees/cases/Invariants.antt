use Rattle.std.proofs.Common.{◌≡◌, take, map}
use Rattle.fo_syntax.specs.ProblemTrees.{atoms_of}
use Rattle.fo_file.specs.Written.{atoms_tree}
use Rattle.fo_file.proofs.values.theory_trees.cases.Given as goal

abbrev pub invariant-loop-value : goal.invariant-loop-value
invariant-loop-value l = map atoms_of l.trees.items ≡ map (atoms_tree l.theory) (take l.value-index l.values)
