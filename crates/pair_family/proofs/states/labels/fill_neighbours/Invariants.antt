use Rattle.std.proofs.Common.{◌≡◌, ◌++◌, drop}
use Rattle.pair_family.specs.Labels.{neighbours}
use Rattle.pair_family.proofs.states.labels.fill_neighbours.Given as goal

abbrev pub invariant-loop-difference : goal.invariant-loop-difference
invariant-loop-difference l = l.near.items ++ neighbours l.label (drop l.difference-index l.differences)
    ≡ neighbours l.label l.differences
