use Rattle.std.proofs.Common.{◌≡◌, ◌++◌, drop}
use Rattle.pair_family.specs.Labels.{label_pairs, pairs_at}
use Rattle.pair_family.proofs.states.labels.push_placed_pairs.Given as goal

abbrev pub invariant-loop-pair : goal.invariant-loop-pair
invariant-loop-pair l = l.out.items ++ label_pairs l.labels (pairs_at l.places (drop l.pair-index l.pairs))
    ≡ l.fn.out.items ++ label_pairs l.labels (pairs_at l.places l.pairs)
