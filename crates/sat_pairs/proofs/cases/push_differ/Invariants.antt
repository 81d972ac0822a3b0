use Rattle.std.proofs.Common.{◌≡◌, ◌++◌, drop}
use Rattle.sat_pairs.specs.Numbers.{differ_places}
use Rattle.sat_pairs.proofs.cases.push_differ.Given as goal

abbrev pub invariant-loop-atom : goal.invariant-loop-atom
invariant-loop-atom l = l.pairs.items ++ differ_places l.numbers (drop l.atom-index l.atoms) ≡ l.fn.pairs.items
    ++ differ_places l.numbers l.atoms
