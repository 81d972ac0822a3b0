use Rattle.std.proofs.Common.{◌≡◌, drop, take, map}
use Rattle.heap_formula.specs.Words.{Each}
use Rattle.fo_syntax.specs.Trees.{sign_of}
use Rattle.fo_file.specs.Known.{IsKnownSign}
use Rattle.fo_file.specs.Values.{sign_value}
use Rattle.fo_file.proofs.values.term_values.term.Given as goal

abbrev pub invariant-loop-tree : goal.invariant-loop-tree
invariant-loop-tree l =
    (l.signs.items ≡ map (sign_value l.constructors) (map sign_of (take l.tree-index l.trees)))
    × Each (IsKnownSign l.constructors) (map sign_of (drop l.tree-index l.trees))
