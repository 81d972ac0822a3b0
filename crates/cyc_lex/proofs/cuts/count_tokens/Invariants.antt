use Rattle.std.proofs.Common.{length, true}
use Rattle.std.specs.Str.{chars}
use Rattle.cyc_lex.specs.Lexing.{lex, comment_len}
use Rattle.cyc_lex.proofs.CutLaws.{IsCounting}
use Rattle.cyc_lex.proofs.cuts.count_tokens.Given as goal

abbrev pub invariant-pieces : goal.invariant-pieces
invariant-pieces l = IsCounting (lex true l.fn.place (comment_len l.fn.comment (chars l.fn.text)) (chars l.fn.text))
    l.count l.rest l.place

abbrev pub decreases-pieces : goal.decreases-pieces
decreases-pieces l = length l.rest
