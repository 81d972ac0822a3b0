use Rattle.std.proofs.Common.{◌≡◌, ◌++◌, drop, map}
use Rattle.heap_reader.specs.Trees.{end_of}
use Rattle.heap_reader.specs.EndValues.{ends_behind}
use Rattle.heap_reader.specs.Written.{end_tree, ends_tree}
use Rattle.heap_reader.proofs.ends.trees.end_trees.Given as goal

abbrev pub invariant-loop-i : goal.invariant-loop-i
invariant-loop-i l =
    map end_of l.trees.items ++ map (end_tree l.defs) (ends_behind l.i (drop l.i l.program))
    ≡ ends_tree l.defs l.program
