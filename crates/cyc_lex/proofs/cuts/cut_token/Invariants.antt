use Rattle.std.proofs.Common.{length}
use Rattle.cyc_lex.proofs.CutLaws.{IsCutting}
use Rattle.cyc_lex.proofs.cuts.cut_token.Given as goal

abbrev pub invariant-pieces : goal.invariant-pieces
invariant-pieces l = IsCutting l.fn.place l.fn.text l.place l.rest

abbrev pub decreases-pieces : goal.decreases-pieces
decreases-pieces l = length l.rest
