use Rattle.std.proofs.Common.{◌≡◌, ◌++◌, ◌<◌, ◌^◌}
use Rattle.pair_family.specs.Labels.{label_pairs}
use Rattle.pair_family.specs.Masks.{pairs_in}
use Rattle.pair_family.proofs.states.labels.push_masked_pairs.Given as goal

abbrev pub invariant-loop-rest : goal.invariant-loop-rest
invariant-loop-rest l = record {
  within : l.rest < 2 ^ 55;
  pushed : l.out.items ++ label_pairs l.labels (pairs_in l.rest) ≡ l.fn.out.items
      ++ label_pairs l.labels (pairs_in l.mask);
}

abbrev pub decreases-loop-rest : goal.decreases-loop-rest
decreases-loop-rest l = l.rest
