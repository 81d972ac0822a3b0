use Rattle.std.proofs.Common.{◌≡◌, map, take}
use Rattle.run_file.specs.Trees.{pick_of}
use Rattle.run_file.proofs.values.picks.Given as goal

abbrev pub invariant-loop-tree : goal.invariant-loop-tree
invariant-loop-tree l = l.picks.items ≡ map pick_of (take l.tree-index l.trees)
