use Rattle.std.proofs.Common.{◌≡◌, filter}
use Rattle.pair_family.specs.Combination.{pairs_below}
use Rattle.pair_family.specs.Labels.{has_same}
use Rattle.pair_family.proofs.states.labels.same_pairs.Given as goal

abbrev pub invariant-loop-j : goal.invariant-loop-j
invariant-loop-j l = l.pairs.items ≡ filter (has_same l.labels) (pairs_below l.j)
