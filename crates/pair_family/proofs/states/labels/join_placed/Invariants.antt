use Rattle.std.proofs.Common.{◌≡◌, drop}
use Rattle.pair_family.specs.Labels.{joined_labels, pairs_at}
use Rattle.pair_family.proofs.states.labels.join_placed.Given as goal

abbrev pub invariant-loop-equation : goal.invariant-loop-equation
invariant-loop-equation l = joined_labels l.labels.items (pairs_at l.places (drop l.equation-index l.equations))
    ≡ joined_labels l.initial.labels.items (pairs_at l.places l.equations)
