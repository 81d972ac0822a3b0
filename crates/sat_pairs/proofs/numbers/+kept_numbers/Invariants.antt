use Rattle.std.proofs.Common.{length}
use Rattle.sat_pairs.proofs.numbers.+kept_numbers.Given as goal

abbrev pub decreases-kept_numbers : goal.decreases-kept_numbers
decreases-kept_numbers l = length l.atoms.now
