use Rattle.std.proofs.Common.{◌≡◌, ◌++◌, drop}
use Rattle.pair_family.specs.Combination.{each_two}
use Rattle.pair_family.proofs.states.labels.push_each_two.Given as goal

abbrev pub invariant-loop-i : goal.invariant-loop-i
invariant-loop-i l = l.out.items ++ each_two (drop l.i l.cells) ≡ l.fn.out.items ++ each_two l.cells
