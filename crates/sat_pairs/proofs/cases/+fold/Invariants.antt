use Rattle.std.proofs.Common.{length}
use Rattle.sat_pairs.proofs.cases.+fold.Given as goal

abbrev pub decreases-fold : goal.decreases-fold
decreases-fold l = length l.atoms.now
