use Rattle.std.proofs.Common.{◌<◌, ◌∙◌, length, refl, sym, ap, false-eqb, eqb-true, arith}
use Rattle.std.specs.Prelude.{map}
use Rattle.std.proofs.lemmas.Result.{err_from_is_err_and}
use Rattle.cyc_lex.specs.declared.token.Kind.TheVariants.{End}
use Rattle.cyc_lex.specs.declared.place.Bad.TheVariants as bads
use Rattle.std.specs.Str.{chars}
use Rattle.cyc_lex.specs.Placed.{placed}
use Rattle.cyc_lex.specs.Lexing.{lex, token_at, ended, with_tokens}
use Rattle.cyc_lex.specs.declared.place.Piece.TheVariants as pieces
use Rattle.cyc_lex.proofs.Lexed.{IsNext, after-gap, after-token, at-stray, at-long, at-end, end-token, with_tokens-err}
use Rattle.cyc_lex.specs.Lexing.{comment_len}
use Rattle.cyc_lex.proofs.Pieces.{skip}
use Rattle.cyc_lex.proofs.lexing.lex_from.Goals as goal
use Rattle.std.proofs.lemmas.List.{nil_from_length}

pub loop-rest-preserved-in-Gap : goal.loop-rest-preserved-in-Gap
loop-rest-preserved-in-Gap c =
    let some : 0 < length c.loop-rest.rest.now = omega (arith, false-eqb _ 0 c.loop-rest-test.ensures) in
    let n : IsNext c.loop-rest.place c.loop-rest.rest.now pieces.Gap c.next-piece.result.1.now c.next-piece.result.2.now
    c.next-piece.result.3 = record {
      some = some;
      kind = sym c.in-Gap.is ∙ c.next-piece.ensures.kind;
      front = c.next-piece.ensures.front;
      rest = c.next-piece.ensures.rest;
      place = c.next-piece.ensures.place;
      room = c.next-piece.ensures.room;
      utf8 = c.next-piece.ensures.utf8;
    } in
    after-gap c.args.whole (lex c.args.whole c.args.place (comment_len c.args.comment (chars c.args.text.now))
    (chars c.args.text.now))
    c.loop-rest.out.items c.loop-rest.rest.now c.loop-rest.place c.next-piece.result.1.now c.next-piece.result.2.now
    c.next-piece.result.3 c.loop-rest.invariant n

pub returns-in-Stray : goal.returns-in-Stray
returns-in-Stray c =
    let some : 0 < length c.loop-rest.rest.now = omega (arith, false-eqb _ 0 c.loop-rest-test.ensures) in
    let n : IsNext c.loop-rest.place c.loop-rest.rest.now pieces.Stray c.next-piece.result.1.now
    c.next-piece.result.2.now c.next-piece.result.3 = record {
      some = some;
      kind = sym c.in-Stray.is ∙ c.next-piece.ensures.kind;
      front = c.next-piece.ensures.front;
      rest = c.next-piece.ensures.rest;
      place = c.next-piece.ensures.place;
      room = c.next-piece.ensures.room;
      utf8 = c.next-piece.ensures.utf8;
    } in
    at-stray c.args.whole (lex c.args.whole c.args.place (comment_len c.args.comment (chars c.args.text.now))
    (chars c.args.text.now))
    c.loop-rest.out.items c.loop-rest.rest.now c.loop-rest.place c.next-piece.result.1.now c.next-piece.result.2.now
    c.next-piece.result.3 c.loop-rest.invariant n

pub returns-in_err-check_len-in-Token : goal.returns-in_err-check_len-in-Token
returns-in_err-check_len-in-Token c =
    let some : 0 < length c.loop-rest.rest.now = omega (arith, false-eqb _ 0 c.loop-rest-test.ensures) in
    let n : IsNext c.loop-rest.place c.loop-rest.rest.now (pieces.Token c.in-Token.kind)
    c.next-piece.result.1.now c.next-piece.result.2.now c.next-piece.result.3 = record {
      some = some;
      kind = sym c.in-Token.is ∙ c.next-piece.ensures.kind;
      front = c.next-piece.ensures.front;
      rest = c.next-piece.ensures.rest;
      place = c.next-piece.ensures.place;
      room = c.next-piece.ensures.room;
      utf8 = c.next-piece.ensures.utf8;
    } in
    let p = err_from_is_err_and c.from_residual.result c.from_residual.ensures.1 in
    rw (p.1, p.2) (at-long c.args.whole (lex c.args.whole c.args.place
    (comment_len c.args.comment (chars c.args.text.now)) (chars c.args.text.now))
    c.loop-rest.out.items c.loop-rest.rest.now c.loop-rest.place c.in-Token.kind c.next-piece.result.1.now
    c.next-piece.result.2.now c.next-piece.result.3 c.in_err-check_len-in-Token.field-0.0 c.loop-rest.invariant n
    (sym c.in_err-check_len-in-Token.ensures))

pub loop-rest-preserved : goal.loop-rest-preserved
loop-rest-preserved c =
    let some : 0 < length c.loop-rest.rest.now = omega (arith, false-eqb _ 0 c.loop-rest-test.ensures) in
    let n : IsNext c.loop-rest.place c.loop-rest.rest.now (pieces.Token c.in-Token.kind)
    c.next-piece.result.1.now c.next-piece.result.2.now c.next-piece.result.3 = record {
      some = some;
      kind = sym c.in-Token.is ∙ c.next-piece.ensures.kind;
      front = c.next-piece.ensures.front;
      rest = c.next-piece.ensures.rest;
      place = c.next-piece.ensures.place;
      room = c.next-piece.ensures.room;
      utf8 = c.next-piece.ensures.utf8;
    } in
    rw c.in_ok-push-in-Token.ensures.items (after-token c.args.whole
    (lex c.args.whole c.args.place (comment_len c.args.comment (chars c.args.text.now)) (chars c.args.text.now))
    c.loop-rest.out.items c.loop-rest.rest.now c.loop-rest.place c.in-Token.kind c.next-piece.result.1.now
    c.next-piece.result.2.now c.next-piece.result.3 _ c.loop-rest.invariant n
    (sym c.in_ok-check_len-in-Token.ensures) refl)

pub returns-then-not-whole : goal.returns-then-not-whole
returns-then-not-whole c =
    let e = at-end c.args.whole (lex c.args.whole c.args.place (comment_len c.args.comment (chars c.args.text.now))
    (chars c.args.text.now)) c.loop-rest.out.items c.loop-rest.rest.now c.loop-rest.place c.loop-rest.invariant
    (eqb-true _ _ (sym c.loop-rest-test.ensures)) in
    sym e ∙ ap (λ b. with_tokens (map placed c.loop-rest.out.items) (ended b c.loop-rest.place)) c.if-not-whole.true
    ∙ with_tokens-err (map placed c.loop-rest.out.items) (bads.Utf8, c.loop-rest.place)

pub returns : goal.returns
returns c =
    let empty = eqb-true _ _ (sym c.loop-rest-test.ensures) in
    let e = at-end c.args.whole (lex c.args.whole c.args.place (comment_len c.args.comment (chars c.args.text.now))
    (chars c.args.text.now))
    c.loop-rest.out.items c.loop-rest.rest.now c.loop-rest.place c.loop-rest.invariant empty in
    let whole = ap (λ b. with_tokens (map placed c.loop-rest.out.items) (ended b c.loop-rest.place))
    c.if-not-whole.false in
    rw c.in_ok-push.ensures.items (end-token c.args.text.now c.loop-rest.out.items _ c.loop-rest.place
    (lex c.args.whole c.args.place (comment_len c.args.comment (chars c.args.text.now)) (chars c.args.text.now))
    (sym whole ∙ e) (ap (token_at End c.loop-rest.place) (nil_from_length c.loop-rest.rest.now empty)))

pub loop-rest-init : goal.loop-rest-init
loop-rest-init c = rw c.new-out.ensures.items (record {
  whole_is = (λ i. lex c.args.whole (c.skip_comment.ensures.place i) 0 (c.skip_comment.ensures.rest i))
      ∙ sym (skip c.args.whole c.args.place _ (chars c.args.text.now));
  room = c.skip_comment.ensures.room;
  utf8 = c.skip_comment.ensures.utf8;
})
