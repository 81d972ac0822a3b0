use Rattle.std.proofs.Common.{◌≡◌, ◌+◌, drop}
use Rattle.sat_pairs.specs.Numbers.{place_in}
use Rattle.sat_pairs.proofs.numbers.place_of.Given as goal

abbrev pub invariant-loop-i : goal.invariant-loop-i
invariant-loop-i l = l.i + place_in l.number (drop l.i l.numbers) ≡ place_in l.number l.numbers
