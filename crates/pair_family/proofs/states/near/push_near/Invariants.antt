use Rattle.std.proofs.Common.{◌≡◌, ◌++◌, filter}
use Rattle.pair_family.specs.Labels.{row, has_difference}
use Rattle.pair_family.proofs.states.near.push_near.Given as goal

abbrev pub invariant-loop-i : goal.invariant-loop-i
invariant-loop-i l = l.pairs.items ≡ l.fn.pairs.items ++ filter (has_difference l.labels l.differences) (row l.j l.i)
