use Rattle.std.proofs.Common.{◌≡◌, ◌++◌, take}
use Rattle.pair_family.specs.Labels.{numbers_at}
use Rattle.pair_family.proofs.states.labels.fill_numbers.Given as goal

abbrev pub invariant-loop-number : goal.invariant-loop-number
invariant-loop-number l = l.out.items ≡ l.own ++ numbers_at l.places (take l.number-index l.others)
