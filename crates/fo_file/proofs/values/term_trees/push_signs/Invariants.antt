use Rattle.std.proofs.Common.{◌≡◌, ◌++◌, take, map}
use Rattle.fo_syntax.specs.Trees.{sign_of}
use Rattle.fo_file.specs.Written.{term_tree}
use Rattle.fo_file.proofs.values.term_trees.push_signs.Given as goal

abbrev pub invariant-loop-value : goal.invariant-loop-value
invariant-loop-value l = map sign_of l.signs.items ≡ map sign_of l.initial.signs.items
    ++ term_tree l.theory (take l.value-index l.values)
