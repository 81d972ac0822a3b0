use Rattle.std.proofs.Common.{◌≡◌, take}
use Rattle.pair_family.specs.Labels.{labels_at}
use Rattle.pair_family.proofs.states.labels.fill_labels.Given as goal

abbrev pub invariant-loop-number : goal.invariant-loop-number
invariant-loop-number l = l.out.items ≡ labels_at l.labels (take l.number-index l.numbers)
