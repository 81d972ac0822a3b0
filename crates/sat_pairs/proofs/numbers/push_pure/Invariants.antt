use Rattle.std.proofs.Common.{◌≡◌, drop}
use Rattle.sat_pairs.specs.Numbers.{with_pure_numbers}
use Rattle.sat_pairs.proofs.numbers.push_pure.Given as goal

abbrev pub invariant-loop-atom : goal.invariant-loop-atom
invariant-loop-atom l = with_pure_numbers l.numbers.items (drop l.atom-index l.atoms)
    ≡ with_pure_numbers l.fn.numbers.items l.atoms
