use Rattle.std.proofs.Common.{length, false}
use Rattle.std.specs.Str.{chars, IsUtf8}
use Rattle.cyc_lex.specs.Lexing.{lex, HasRoom}
use Rattle.cyc_lex.specs.Lexing.{comment_len}
use Rattle.piecewise_lex.proofs.TakingLaws.{FailsWith}
use Rattle.piecewise_lex.proofs.fronts.first_bad.Given as goal

abbrev pub invariant-pieces : goal.invariant-pieces
invariant-pieces l = FailsWith (lex false l.place 0 (chars l.rest))
    (lex false l.fn.place (comment_len l.fn.comment (chars l.fn.text)) (chars l.fn.text))
    × HasRoom l.place (length l.rest) × IsUtf8 l.rest

abbrev pub decreases-pieces : goal.decreases-pieces
decreases-pieces l = length l.rest
