use Rattle.std.proofs.Common.{◌<◌, ◌∙◌, length, sym, ap, subst, false, arith, false-eqb, eqb-true}
use Rattle.std.specs.Str.{chars}
use Rattle.cyc_lex.specs.Lexing.{lex, token_at, with_token, Stops}
use Rattle.cyc_lex.specs.declared.place.Bad.TheVariants as bads
use Rattle.piecewise_lex.proofs.TakingLaws.{stops-with}
use Rattle.cyc_lex.specs.declared.place.Piece.TheVariants as pieces
use Rattle.cyc_lex.proofs.Pieces.{skip}
use Rattle.cyc_lex.proofs.Lexed.{IsNext, by_next, taken-long, taken-token, nil-chars}
use Rattle.piecewise_lex.proofs.fronts.first_bad.Goals as goal

pub pieces-init : goal.pieces-init
pieces-init c =
    let same = (λ i. lex false (c.skip_comment.ensures.place i) 0 (c.skip_comment.ensures.rest i))
    ∙ sym (skip false c.args.place _ (chars c.args.text.now)) in
    (λ e h. sym same ∙ h, c.skip_comment.ensures.room, c.skip_comment.ensures.utf8)

pub returns-in-Stray : goal.returns-in-Stray
returns-in-Stray c =
    let some : 0 < length c.pieces.rest.now = omega (arith, false-eqb _ 0 c.pieces-test.ensures) in
    let n : IsNext c.pieces.place c.pieces.rest.now pieces.Stray c.next-piece.result.1.now c.next-piece.result.2.now
    c.next-piece.result.3 = record {
      some = some;
      kind = sym c.in-Stray.is ∙ c.next-piece.ensures.kind;
      front = c.next-piece.ensures.front;
      rest = c.next-piece.ensures.rest;
      place = c.next-piece.ensures.place;
      room = c.next-piece.ensures.room;
      utf8 = c.next-piece.ensures.utf8;
    } in
    let next = by_next false c.pieces.place c.pieces.rest.now pieces.Stray c.next-piece.result.1.now
    c.next-piece.result.2.now c.next-piece.result.3 c.pieces.invariant.2 n in
    c.pieces.invariant.0 (bads.Byte, c.pieces.place) next

pub pieces-preserved-in-Gap : goal.pieces-preserved-in-Gap
pieces-preserved-in-Gap c =
    let some : 0 < length c.pieces.rest.now = omega (arith, false-eqb _ 0 c.pieces-test.ensures) in
    let n : IsNext c.pieces.place c.pieces.rest.now pieces.Gap c.next-piece.result.1.now c.next-piece.result.2.now
    c.next-piece.result.3 = record {
      some = some;
      kind = sym c.in-Gap.is ∙ c.next-piece.ensures.kind;
      front = c.next-piece.ensures.front;
      rest = c.next-piece.ensures.rest;
      place = c.next-piece.ensures.place;
      room = c.next-piece.ensures.room;
      utf8 = c.next-piece.ensures.utf8;
    } in
    let next = by_next false c.pieces.place c.pieces.rest.now pieces.Gap c.next-piece.result.1.now
    c.next-piece.result.2.now c.next-piece.result.3 c.pieces.invariant.2 n in
    (λ e h. c.pieces.invariant.0 e (next ∙ h), n.room, n.utf8)

pub returns-in-Err : goal.returns-in-Err
returns-in-Err c =
    let some : 0 < length c.pieces.rest.now = omega (arith, false-eqb _ 0 c.pieces-test.ensures) in
    let n : IsNext c.pieces.place c.pieces.rest.now (pieces.Token c.in-Token.kind)
    c.next-piece.result.1.now c.next-piece.result.2.now c.next-piece.result.3 = record {
      some = some;
      kind = sym c.in-Token.is ∙ c.next-piece.ensures.kind;
      front = c.next-piece.ensures.front;
      rest = c.next-piece.ensures.rest;
      place = c.next-piece.ensures.place;
      room = c.next-piece.ensures.room;
      utf8 = c.next-piece.ensures.utf8;
    } in
    let next = by_next false c.pieces.place c.pieces.rest.now (pieces.Token c.in-Token.kind)
    c.next-piece.result.1.now c.next-piece.result.2.now c.next-piece.result.3 c.pieces.invariant.2 n in
    let r = (lex false c.next-piece.result.3 0 (chars c.next-piece.result.2.now)) in
    let here = taken-long c.in-Token.kind c.pieces.place c.next-piece.result.1.now r c.in-Err.stop
    (sym c.check_len.ensures ∙ c.in-Err.is) in
    stops-with c.in-Err.stop (lex false c.pieces.place 0 (chars c.pieces.rest.now)) _ c.pieces.invariant.0
    (subst (Stops c.in-Err.stop) (sym next) here)

pub pieces-preserved : goal.pieces-preserved
pieces-preserved c =
    let some : 0 < length c.pieces.rest.now = omega (arith, false-eqb _ 0 c.pieces-test.ensures) in
    let n : IsNext c.pieces.place c.pieces.rest.now (pieces.Token c.in-Token.kind)
    c.next-piece.result.1.now c.next-piece.result.2.now c.next-piece.result.3 = record {
      some = some;
      kind = sym c.in-Token.is ∙ c.next-piece.ensures.kind;
      front = c.next-piece.ensures.front;
      rest = c.next-piece.ensures.rest;
      place = c.next-piece.ensures.place;
      room = c.next-piece.ensures.room;
      utf8 = c.next-piece.ensures.utf8;
    } in
    let next = by_next false c.pieces.place c.pieces.rest.now (pieces.Token c.in-Token.kind)
    c.next-piece.result.1.now c.next-piece.result.2.now c.next-piece.result.3 c.pieces.invariant.2 n in
    let r = (lex false c.next-piece.result.3 0 (chars c.next-piece.result.2.now)) in
    let k = c.in-Token.kind in
    let one = next ∙ taken-token k c.pieces.place c.next-piece.result.1.now r (sym c.check_len.ensures ∙ c.in-Ok.is) in (
      λ e h. c.pieces.invariant.0 e (one ∙ ap (with_token (token_at k c.pieces.place c.next-piece.result.1.now)) h),
      n.room,
      n.utf8,
    )

pub returns : goal.returns
unfolding lex
returns c = c.pieces.invariant.0 (bads.Utf8, c.pieces.place)
    (ap (lex false c.pieces.place 0) (nil-chars c.pieces.rest.now (eqb-true _ _ (sym c.pieces-test.ensures))))
