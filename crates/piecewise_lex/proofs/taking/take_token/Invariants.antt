use Rattle.std.proofs.Common.{length}
use Rattle.std.specs.Str.{chars}
use Rattle.piecewise_lex.proofs.TakingLaws.{IsOn}
use Rattle.piecewise_lex.proofs.taking.take_token.Given as goal

abbrev pub invariant-pieces : goal.invariant-pieces
invariant-pieces l = IsOn l.fn.place l.fn.comment (chars l.fn.text) l.place l.in_comment l.rest

abbrev pub decreases-pieces : goal.decreases-pieces
decreases-pieces l = length l.rest
