use Rattle.std.proofs.Common.{◌≡◌, ◌++◌, filter}
use Rattle.pair_family.specs.Labels.{row, has_same}
use Rattle.pair_family.proofs.states.labels.push_same.Given as goal

abbrev pub invariant-loop-i : goal.invariant-loop-i
invariant-loop-i l = l.pairs.items ≡ l.fn.pairs.items ++ filter (has_same l.labels) (row l.j l.i)
