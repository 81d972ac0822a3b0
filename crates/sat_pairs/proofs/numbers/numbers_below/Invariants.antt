use Rattle.std.proofs.Common.{◌≡◌, ◌++◌, ◌-◌}
use Rattle.sat_pairs.specs.Numbers.{count_from}
use Rattle.sat_pairs.proofs.numbers.numbers_below.Given as goal

abbrev pub invariant-loop-i : goal.invariant-loop-i
invariant-loop-i l = l.numbers.items ++ count_from l.i (l.n - l.i) ≡ count_from 0 l.n
