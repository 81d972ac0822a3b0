use Rattle.std.proofs.Common.{◌≡◌, ◌++◌, drop}
use Rattle.pair_family.specs.Labels.{label_pairs}
use Rattle.pair_family.proofs.states.labels.push_label_pairs.Given as goal

abbrev pub invariant-loop-pair : goal.invariant-loop-pair
invariant-loop-pair l = l.out.items ++ label_pairs l.labels (drop l.pair-index l.pairs) ≡ l.fn.out.items
    ++ label_pairs l.labels l.pairs
