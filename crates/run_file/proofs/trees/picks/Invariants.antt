use Rattle.std.proofs.Common.{◌≡◌, map, take, drop}
use Rattle.heap_formula.specs.Words.{Each}
use Rattle.run_file.specs.Trees.{pick_of}
use Rattle.run_file.specs.Small.{IsShortPick}
use Rattle.run_file.proofs.trees.picks.Given as goal

abbrev pub invariant-loop-value : goal.invariant-loop-value
invariant-loop-value l = (map pick_of l.trees.items ≡ take l.value-index l.values)
    × Each IsShortPick (drop l.value-index l.values)
