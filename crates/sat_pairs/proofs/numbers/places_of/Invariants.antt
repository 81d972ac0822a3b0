use Rattle.std.proofs.Common.{◌≡◌, take}
use Rattle.sat_pairs.specs.Numbers.{places_in}
use Rattle.sat_pairs.proofs.numbers.places_of.Given as goal

abbrev pub invariant-loop-term : goal.invariant-loop-term
invariant-loop-term l = l.places.items ≡ places_in l.numbers (take l.term-index l.terms)
