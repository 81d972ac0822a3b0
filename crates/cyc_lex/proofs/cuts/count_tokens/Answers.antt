use Rattle.std.proofs.Common.{[], ◌∙◌, refl, sym, false-eqb, eqb-true, arith, true}
use Rattle.std.proofs.lemmas.Result.{err_from_is_err_and}
use Rattle.std.specs.Str.{chars}
use Rattle.cyc_lex.specs.declared.place.Piece.TheVariants as pieces
use Rattle.cyc_lex.specs.Lexing.{lex, comment_len}
use Rattle.cyc_lex.specs.Cutting.{cut_text}
use Rattle.cyc_lex.proofs.Lexed.{IsNext, at-stray, at-long}
use Rattle.cyc_lex.proofs.Pieces.{skip}
use Rattle.cyc_lex.proofs.CutLaws.{counting-gap, counting-token, counted, cut-lexed}
use Rattle.cyc_lex.proofs.cuts.count_tokens.Goals as goal

pub pieces-init : goal.pieces-init
pieces-init c = record {
  out = [];
  lexed = record {
    whole_is = (λ i. lex true (c.skip_comment.ensures.place i) 0 (c.skip_comment.ensures.rest i))
        ∙ sym (skip true c.args.place _ (chars c.args.text.now));
    room = c.skip_comment.ensures.room;
    utf8 = c.skip_comment.ensures.utf8;
  };
  size = refl;
  few = omega (arith, c.skip_comment.ensures.room.offset);
}

pub returns-in-Stray : goal.returns-in-Stray
returns-in-Stray c =
    let n : IsNext c.pieces.place c.pieces.rest.now pieces.Stray c.next-piece.result.1.now c.next-piece.result.2.now
    c.next-piece.result.3 = record {
      some = omega (arith, false-eqb _ 0 c.pieces-test.ensures);
      kind = sym c.in-Stray.is ∙ c.next-piece.ensures.kind;
      front = c.next-piece.ensures.front;
      rest = c.next-piece.ensures.rest;
      place = c.next-piece.ensures.place;
      room = c.next-piece.ensures.room;
      utf8 = c.next-piece.ensures.utf8;
    } in
    at-stray true (lex true c.args.place (comment_len c.args.comment (chars c.args.text.now)) (chars c.args.text.now))
    c.pieces.invariant.out c.pieces.rest.now c.pieces.place c.next-piece.result.1.now c.next-piece.result.2.now
    c.next-piece.result.3 c.pieces.invariant.lexed n

pub returns-in_err-check_len-in-Token : goal.returns-in_err-check_len-in-Token
returns-in_err-check_len-in-Token c =
    let n : IsNext c.pieces.place c.pieces.rest.now (pieces.Token c.in-Token.kind)
    c.next-piece.result.1.now c.next-piece.result.2.now c.next-piece.result.3 = record {
      some = omega (arith, false-eqb _ 0 c.pieces-test.ensures);
      kind = sym c.in-Token.is ∙ c.next-piece.ensures.kind;
      front = c.next-piece.ensures.front;
      rest = c.next-piece.ensures.rest;
      place = c.next-piece.ensures.place;
      room = c.next-piece.ensures.room;
      utf8 = c.next-piece.ensures.utf8;
    } in
    let p = err_from_is_err_and c.from_residual.result c.from_residual.ensures.1 in
    rw (p.1, p.2) (at-long true (lex true c.args.place (comment_len c.args.comment (chars c.args.text.now))
    (chars c.args.text.now))
    c.pieces.invariant.out c.pieces.rest.now c.pieces.place c.in-Token.kind c.next-piece.result.1.now
    c.next-piece.result.2.now c.next-piece.result.3 c.in_err-check_len-in-Token.field-0.0 c.pieces.invariant.lexed n
    (sym c.in_err-check_len-in-Token.ensures))

pub pieces-preserved-in-Gap : goal.pieces-preserved-in-Gap
pieces-preserved-in-Gap c =
    let n : IsNext c.pieces.place c.pieces.rest.now pieces.Gap c.next-piece.result.1.now c.next-piece.result.2.now
    c.next-piece.result.3 = record {
      some = omega (arith, false-eqb _ 0 c.pieces-test.ensures);
      kind = sym c.in-Gap.is ∙ c.next-piece.ensures.kind;
      front = c.next-piece.ensures.front;
      rest = c.next-piece.ensures.rest;
      place = c.next-piece.ensures.place;
      room = c.next-piece.ensures.room;
      utf8 = c.next-piece.ensures.utf8;
    } in
    counting-gap (lex true c.args.place (comment_len c.args.comment (chars c.args.text.now)) (chars c.args.text.now))
    c.pieces.count c.pieces.rest.now c.pieces.place c.next-piece.result.1.now c.next-piece.result.2.now
    c.next-piece.result.3 c.pieces.invariant n c.next-piece.ensures.shorter

pub pieces-preserved : goal.pieces-preserved
pieces-preserved c =
    let n : IsNext c.pieces.place c.pieces.rest.now (pieces.Token c.in-Token.kind)
    c.next-piece.result.1.now c.next-piece.result.2.now c.next-piece.result.3 = record {
      some = omega (arith, false-eqb _ 0 c.pieces-test.ensures);
      kind = sym c.in-Token.is ∙ c.next-piece.ensures.kind;
      front = c.next-piece.ensures.front;
      rest = c.next-piece.ensures.rest;
      place = c.next-piece.ensures.place;
      room = c.next-piece.ensures.room;
      utf8 = c.next-piece.ensures.utf8;
    } in
    counting-token (lex true c.args.place (comment_len c.args.comment (chars c.args.text.now)) (chars c.args.text.now))
    c.pieces.count c.pieces.rest.now c.pieces.place c.in-Token.kind c.next-piece.result.1.now
    c.next-piece.result.2.now c.next-piece.result.3 (record {
      kind = c.in-Token.kind;
      text = c.next-piece.result.1;
      line = c.pieces.place.line;
      column = c.pieces.place.column;
    }) c.pieces.invariant n (sym c.in_ok-check_len-in-Token.ensures)
    refl c.next-piece.ensures.shorter

pub returns : goal.returns
returns c = counted (lex true c.args.place (comment_len c.args.comment (chars c.args.text.now)) (chars c.args.text.now))
    c.pieces.count c.pieces.rest.now c.pieces.place (cut_text c.args.place c.args.comment c.args.text.now)
    c.pieces.invariant (eqb-true _ _ (sym c.pieces-test.ensures))
    (cut-lexed c.args.place (comment_len c.args.comment (chars c.args.text.now)) (chars c.args.text.now))
