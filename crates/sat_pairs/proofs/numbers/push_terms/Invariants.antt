use Rattle.std.proofs.Common.{◌≡◌, drop}
use Rattle.sat_pairs.specs.Numbers.{with_numbers}
use Rattle.sat_pairs.proofs.numbers.push_terms.Given as goal

abbrev pub invariant-loop-term : goal.invariant-loop-term
invariant-loop-term l = with_numbers l.numbers.items (drop l.term-index l.terms)
    ≡ with_numbers l.fn.numbers.items l.terms
