use Rattle.std.proofs.Common.{length}
use Rattle.model_check.proofs.unions.+unions.Given as goal

abbrev pub decreases-unions : goal.decreases-unions
decreases-unions l = length l.pieces.now
