use Rattle.std.proofs.Common.{◌≡◌, take}
use Rattle.pair_family.specs.Combination.{upto}
use Rattle.pair_family.proofs.states.labels.are_first.Given as goal

abbrev pub invariant-loop-i : goal.invariant-loop-i
invariant-loop-i l = take l.i l.numbers ≡ upto l.i
