use Rattle.std.proofs.Common.{◌≡◌, ◌<◌, ◌^◌}
use Rattle.pair_family.specs.Labels.{joined_labels}
use Rattle.pair_family.specs.Masks.{pairs_in}
use Rattle.pair_family.proofs.states.labels.join_masked.Given as goal

abbrev pub invariant-loop-rest : goal.invariant-loop-rest
invariant-loop-rest l = record {
  within : l.rest < 2 ^ 55;
  joined : joined_labels l.labels.items (pairs_in l.rest) ≡ joined_labels l.initial.labels.items (pairs_in l.mask);
}

abbrev pub decreases-loop-rest : goal.decreases-loop-rest
decreases-loop-rest l = l.rest
