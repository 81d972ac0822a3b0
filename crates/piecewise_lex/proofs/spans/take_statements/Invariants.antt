use Rattle.std.proofs.Common.{length}
use Rattle.std.specs.Str.{chars}
use Rattle.piecewise_lex.specs.Taking.{reading}
use Rattle.piecewise_lex.proofs.SpanLaws.{IsOn}
use Rattle.piecewise_lex.proofs.spans.take_statements.Given as goal

abbrev pub invariant-tokens : goal.invariant-tokens
invariant-tokens l = IsOn (reading l.fn.place l.fn.comment l.fn.text)
    l.span.tokens l.span.place l.span.comment l.span.rest.now l.kept.items

abbrev pub decreases-tokens : goal.decreases-tokens
decreases-tokens l = length (chars l.span.rest.now)
