use Rattle.std.proofs.Common.{◌≡◌, drop}
use Rattle.pair_family.specs.Labels.{joined_labels}
use Rattle.pair_family.proofs.states.labels.join_pairs.Given as goal

abbrev pub invariant-loop-equation : goal.invariant-loop-equation
invariant-loop-equation l = joined_labels l.labels.items (drop l.equation-index l.equations)
    ≡ joined_labels l.initial.labels.items l.equations
