use Rattle.std.proofs.Common.{length}
use Rattle.sat_pairs.proofs.stages.+push_stages.Given as goal

abbrev pub decreases-push_stages : goal.decreases-push_stages
decreases-push_stages l = length l.atoms.now
