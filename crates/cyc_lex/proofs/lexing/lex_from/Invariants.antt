use Rattle.std.proofs.Common.{length}
use Rattle.std.specs.Str.{chars}
use Rattle.cyc_lex.specs.Lexing.{lex}
use Rattle.cyc_lex.specs.Lexing.{comment_len}
use Rattle.cyc_lex.proofs.Lexed.{IsLexed}
use Rattle.cyc_lex.proofs.lexing.lex_from.Given as goal

abbrev pub invariant-loop-rest : goal.invariant-loop-rest
invariant-loop-rest l = IsLexed l.whole (lex l.whole l.fn.place (comment_len l.comment (chars l.text)) (chars l.text))
    l.out.items l.rest l.place

abbrev pub decreases-loop-rest : goal.decreases-loop-rest
decreases-loop-rest l = length l.rest
