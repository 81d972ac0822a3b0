use Rattle.std.proofs.Common.{◌+◌, ◌∷◌, ◌++◌, [], true, length, arith, ap}
use Rattle.std.proofs.lemmas.Result.{err_from_is_err_and}
use Rattle.std.proofs.lemmas.Str.{encodes-chars}
use Rattle.cyc_lex.specs.Placed.{placed}
use Rattle.piecewise_lex.specs.declared.spans.Span.{Span}
use Rattle.piecewise_lex.specs.Taking.{reading}
use Rattle.piecewise_lex.proofs.TakingLaws.{taken-stops}
use Rattle.piecewise_lex.proofs.SpanLaws.{AreKept, on-start, kept-more, kept-no-more, one-passed, none-passed, is-front}
use Rattle.piecewise_lex.proofs.spans.take_statements.Goals.{then-len-lt-MOST_KEPT+in_ok-push, else-len-lt-MOST_KEPT}
use Rattle.piecewise_lex.proofs.spans.take_statements.Goals as goal

pub tokens-init : goal.tokens-init
tokens-init c = on-start c.args.place c.args.comment c.args.text.now c.clear.new.self.items c.requires c.utf8.text
    c.clear.ensures.items

pub returns-in_err-taken-clause-taken : goal.returns-in_err-taken-clause-taken
returns-in_err-taken-clause-taken c =
    let p = err_from_is_err_and c.from_residual.result c.from_residual.ensures.1 in
    rw (p.1, p.2) (taken-stops (reading c.args.place c.args.comment c.args.text.now)
    (reading c.tokens.span.place c.tokens.span.comment c.tokens.span.rest.now)
    c.tokens.invariant.ts c.in_err-taken.field-0.0 c.tokens.invariant.passed.taken c.in_err-taken.ensures)

pub returns-in-None-clause-taken : goal.returns-in-None-clause-taken
returns-in-None-clause-taken c =
    let done = none-passed (reading c.args.place c.args.comment c.args.text.now)
    c.tokens.invariant.ts c.tokens.span.tokens c.tokens.span.place c.tokens.span.comment c.tokens.span.rest.now
    c.in_ok-taken.taken c.tokens.invariant.passed c.in_ok-taken.ensures c.in-None.is in
    let s : Span = record {
      tokens = c.tokens.span.tokens;
      ended = c.tokens.span.ended;
      place = c.in_ok-taken.taken.place;
      comment = c.in_ok-taken.taken.comment;
      rest = c.in_ok-taken.taken.rest;
    } in
    is-front (reading c.args.place c.args.comment c.args.text.now) c.tokens.invariant.ts s done.0

pub overflow_add-span : goal.overflow_add-span
overflow_add-span c =
    let more = one-passed (reading c.args.place c.args.comment c.args.text.now)
    c.tokens.invariant.ts c.tokens.span.tokens c.tokens.span.place c.tokens.span.comment c.tokens.span.rest.now
    c.in_ok-taken.taken c.tokens.invariant.passed c.in_ok-taken.ensures c.in-Some.token c.in-Some.is in
    omega (arith, more.count, ap length (encodes-chars c.args.text.now c.utf8.text), c.requires.offset)

pub returns-then-is_last-2-clause-taken : goal.returns-then-is_last-2-clause-taken
returns-then-is_last-2-clause-taken c =
    let s : Span = record {
      tokens = c.tokens.span.tokens + 1;
      ended = true;
      place = c.in_ok-taken.taken.place;
      comment = c.in_ok-taken.taken.comment;
      rest = c.in_ok-taken.taken.rest;
    } in
    is-front (reading c.args.place c.args.comment c.args.text.now)
    (c.tokens.invariant.ts ++ placed c.in-Some.token ∷ []) s
    (one-passed (reading c.args.place c.args.comment c.args.text.now)
    c.tokens.invariant.ts c.tokens.span.tokens c.tokens.span.place c.tokens.span.comment c.tokens.span.rest.now
    c.in_ok-taken.taken c.tokens.invariant.passed c.in_ok-taken.ensures c.in-Some.token c.in-Some.is)

pub tokens-preserved : goal.tokens-preserved
tokens-preserved c =
    let ts = c.tokens.invariant.ts ++ placed c.in-Some.token ∷ [] in
    let kept : AreKept ts (c.tokens.span.tokens + 1) c.if-len-lt-MOST_KEPT.kept.items =
    elim c.if-len-lt-MOST_KEPT.branch [
      | then-len-lt-MOST_KEPT+in_ok-push w ↦ rw w.kept-is
          (kept-more c.tokens.invariant.ts c.in-Some.token c.tokens.span.tokens c.tokens.kept.items
          w.push.new.self.items c.tokens.invariant.kept w.in_ok-push.ensures.items)
      | else-len-lt-MOST_KEPT w ↦ rw w.kept-is
          (kept-no-more c.tokens.invariant.ts c.in-Some.token c.tokens.span.tokens c.tokens.kept.items
          c.tokens.invariant.kept)
    ] in
    record {
      ts = ts;
      passed = one-passed (reading c.args.place c.args.comment c.args.text.now)
          c.tokens.invariant.ts c.tokens.span.tokens c.tokens.span.place c.tokens.span.comment c.tokens.span.rest.now
          c.in_ok-taken.taken c.tokens.invariant.passed c.in_ok-taken.ensures c.in-Some.token c.in-Some.is;
      kept = kept;
    }
