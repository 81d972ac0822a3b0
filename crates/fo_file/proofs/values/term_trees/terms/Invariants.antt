use Rattle.std.proofs.Common.{◌≡◌, take, map}
use Rattle.fo_syntax.specs.ProofTrees.{signs_of}
use Rattle.fo_file.specs.Written.{term_tree}
use Rattle.fo_file.proofs.values.term_trees.terms.Given as goal

abbrev pub invariant-loop-value : goal.invariant-loop-value
invariant-loop-value l = map signs_of l.trees.items ≡ map (term_tree l.theory) (take l.value-index l.values)
