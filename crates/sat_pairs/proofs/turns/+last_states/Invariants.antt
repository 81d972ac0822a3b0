use Rattle.std.proofs.Common.{length}
use Rattle.sat_pairs.proofs.turns.+last_states.Given as goal

abbrev pub decreases-last_states : goal.decreases-last_states
decreases-last_states l = length l.stages.now
