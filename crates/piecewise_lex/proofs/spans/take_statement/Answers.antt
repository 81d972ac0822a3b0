use Rattle.std.proofs.Common.{◌+◌, ◌∙◌, ◌∷◌, ◌++◌, [], Bool, true, length, arith, refl, sym, ap, subst}
use Rattle.std.proofs.lemmas.Result.{err_from_is_err_and}
use Rattle.std.proofs.lemmas.Str.{encodes-chars}
use Rattle.cyc_lex.specs.Placed.{placed}
use Rattle.piecewise_lex.specs.declared.spans.Span.{Span}
use Rattle.piecewise_lex.specs.Taking.{reading}
use Rattle.piecewise_lex.specs.Spans.{Ends, is_semicolon}
use Rattle.piecewise_lex.proofs.TakingLaws.{taken-stops}
use Rattle.piecewise_lex.proofs.FrontLaws.{none-more}
use Rattle.piecewise_lex.proofs.SpanLaws.{passing-start, one-passed, none-passed, is-span, AreKept, kept-more}
use Rattle.piecewise_lex.proofs.SpanLaws.{kept-no-more}
use Rattle.piecewise_lex.proofs.spans.take_statement.Goals as goal
use Rattle.piecewise_lex.proofs.spans.take_statement.Goals.{then-len-lt-MOST_KEPT+in_ok-push, else-len-lt-MOST_KEPT}

pub tokens-init : goal.tokens-init
tokens-init c = record {
  passing = passing-start c.args.place c.args.comment c.args.text.now c.clear.new.self.items c.requires c.utf8.text
      c.clear.ensures.items;
  going = refl;
}

pub returns-in_err-taken-clause-taken : goal.returns-in_err-taken-clause-taken
returns-in_err-taken-clause-taken c =
    let p = err_from_is_err_and c.from_residual.result c.from_residual.ensures.1 in
    rw (p.1, p.2) (taken-stops (reading c.args.place c.args.comment c.args.text.now)
    (reading c.tokens.span.place c.tokens.span.comment c.tokens.span.rest.now)
    c.tokens.invariant.passing.ts c.in_err-taken.field-0.0 c.tokens.invariant.passing.passed.taken
    c.in_err-taken.ensures)

pub returns-in-None-clause-taken : goal.returns-in-None-clause-taken
returns-in-None-clause-taken c =
    let done = none-passed (reading c.args.place c.args.comment c.args.text.now)
    c.tokens.invariant.passing.ts c.tokens.span.tokens c.tokens.span.place c.tokens.span.comment
    c.tokens.span.rest.now c.in_ok-taken.taken c.tokens.invariant.passing.passed c.in_ok-taken.ensures c.in-None.is
    in
    let s : Span = record {
      tokens = c.tokens.span.tokens;
      ended = c.tokens.span.ended;
      place = c.in_ok-taken.taken.place;
      comment = c.in_ok-taken.taken.comment;
      rest = c.in_ok-taken.taken.rest;
    } in
    is-span (reading c.args.place c.args.comment c.args.text.now) c.tokens.invariant.passing.ts s done.0
    (subst (λ (b : Bool). Ends b c.tokens.invariant.passing.ts
    (reading c.in_ok-taken.taken.place c.in_ok-taken.taken.comment c.in_ok-taken.taken.rest.now))
    (sym c.tokens.invariant.going) (record { none = c.tokens.invariant.passing.none; waits = done.1 }))

pub overflow_add-span : goal.overflow_add-span
overflow_add-span c =
    let more = one-passed (reading c.args.place c.args.comment c.args.text.now)
    c.tokens.invariant.passing.ts c.tokens.span.tokens c.tokens.span.place c.tokens.span.comment
    c.tokens.span.rest.now c.in_ok-taken.taken c.tokens.invariant.passing.passed c.in_ok-taken.ensures
    c.in-Some.token c.in-Some.is in
    omega (arith, more.count, ap length (encodes-chars c.args.text.now c.utf8.text), c.requires.offset)

pub returns-then-is_semicolon-clause-taken : goal.returns-then-is_semicolon-clause-taken
returns-then-is_semicolon-clause-taken c =
    let ts = c.tokens.invariant.passing.ts ++ placed c.in-Some.token ∷ [] in
    let more = one-passed (reading c.args.place c.args.comment c.args.text.now)
    c.tokens.invariant.passing.ts c.tokens.span.tokens c.tokens.span.place c.tokens.span.comment
    c.tokens.span.rest.now c.in_ok-taken.taken c.tokens.invariant.passing.passed c.in_ok-taken.ensures
    c.in-Some.token c.in-Some.is in
    let s : Span = record {
      tokens = c.tokens.span.tokens + 1;
      ended = true;
      place = c.in_ok-taken.taken.place;
      comment = c.in_ok-taken.taken.comment;
      rest = c.in_ok-taken.taken.rest;
    } in
    let ends : Ends true ts (reading c.in_ok-taken.taken.place c.in_ok-taken.taken.comment c.in_ok-taken.taken.rest.now)
    = record {
      body = c.tokens.invariant.passing.ts;
      last = placed c.in-Some.token;
      all = refl;
      none = c.tokens.invariant.passing.none;
      semicolon = sym c.is_semicolon.ensures ∙ c.if-is_semicolon.true;
    } in
    is-span (reading c.args.place c.args.comment c.args.text.now) ts s more ends

pub tokens-preserved : goal.tokens-preserved
tokens-preserved c =
    let ts = c.tokens.invariant.passing.ts ++ placed c.in-Some.token ∷ [] in
    let kept : AreKept ts (c.tokens.span.tokens + 1) c.if-len-lt-MOST_KEPT.kept.items =
    elim c.if-len-lt-MOST_KEPT.branch [
      | then-len-lt-MOST_KEPT+in_ok-push w ↦ rw w.kept-is
          (kept-more c.tokens.invariant.passing.ts c.in-Some.token c.tokens.span.tokens c.tokens.kept.items
          w.push.new.self.items c.tokens.invariant.passing.kept w.in_ok-push.ensures.items)
      | else-len-lt-MOST_KEPT w ↦ rw w.kept-is
          (kept-no-more c.tokens.invariant.passing.ts c.in-Some.token c.tokens.span.tokens c.tokens.kept.items
          c.tokens.invariant.passing.kept)
    ] in
    record {
      passing = record {
        ts = ts;
        passed = one-passed (reading c.args.place c.args.comment c.args.text.now)
            c.tokens.invariant.passing.ts c.tokens.span.tokens c.tokens.span.place c.tokens.span.comment
            c.tokens.span.rest.now c.in_ok-taken.taken c.tokens.invariant.passing.passed c.in_ok-taken.ensures
            c.in-Some.token c.in-Some.is;
        none = none-more is_semicolon c.tokens.invariant.passing.ts (placed c.in-Some.token)
            c.tokens.invariant.passing.none (sym c.is_semicolon.ensures ∙ c.if-is_semicolon.false);
        kept = kept;
      };
      going = c.tokens.invariant.going;
    }
