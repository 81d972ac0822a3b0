use Rattle.std.proofs.Common.{◌≡◌, drop, take, map}
use Rattle.heap_formula.specs.Words.{Each}
use Rattle.fo_syntax.specs.ProblemTrees.{constructor_of}
use Rattle.fo_file.specs.Known.{IsNarrow}
use Rattle.fo_file.specs.Values.{constructor_value}
use Rattle.fo_file.proofs.values.theory_values.constructors.Given as goal

abbrev pub invariant-loop-tree : goal.invariant-loop-tree
invariant-loop-tree l =
    (l.constructors.items ≡ map constructor_value (map constructor_of (take l.tree-index l.trees)))
    × Each IsNarrow (map constructor_of (drop l.tree-index l.trees))
