use Rattle.std.proofs.Common.{◌≡◌, ◌++◌, drop}
use Rattle.sat_pairs.specs.Numbers.{equal_places}
use Rattle.sat_pairs.proofs.cases.push_equal.Given as goal

abbrev pub invariant-loop-atom : goal.invariant-loop-atom
invariant-loop-atom l = l.pairs.items ++ equal_places l.numbers (drop l.atom-index l.atoms) ≡ l.fn.pairs.items
    ++ equal_places l.numbers l.atoms
