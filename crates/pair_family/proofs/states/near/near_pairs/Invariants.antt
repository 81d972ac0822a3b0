use Rattle.std.proofs.Common.{◌≡◌, filter}
use Rattle.pair_family.specs.Combination.{pairs_below}
use Rattle.pair_family.specs.Labels.{has_difference}
use Rattle.pair_family.proofs.states.near.near_pairs.Given as goal

abbrev pub invariant-loop-j : goal.invariant-loop-j
invariant-loop-j l = l.pairs.items ≡ filter (has_difference l.labels l.differences) (pairs_below l.j)
