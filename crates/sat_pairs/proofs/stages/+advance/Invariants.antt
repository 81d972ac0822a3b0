use Rattle.std.proofs.Common.{length}
use Rattle.sat_pairs.proofs.stages.+advance.Given as goal

abbrev pub decreases-advance : goal.decreases-advance
decreases-advance l = length l.stages.now
