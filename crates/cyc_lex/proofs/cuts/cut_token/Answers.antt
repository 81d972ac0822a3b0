use Rattle.std.proofs.Common.{◌∙◌, refl, sym, false-eqb, eqb-true, arith}
use Rattle.cyc_lex.specs.declared.place.Piece.TheVariants as pieces
use Rattle.cyc_lex.proofs.Lexed.{IsNext}
use Rattle.cyc_lex.proofs.CutLaws.{cutting-gap, cutting-token, cutting-end}
use Rattle.cyc_lex.proofs.cuts.cut_token.Goals as goal

pub returns-in-Token : goal.returns-in-Token
returns-in-Token c =
    let n : IsNext c.pieces.place c.pieces.rest.now (pieces.Token c.in-Token.kind)
    c.next-piece.result.1.now c.next-piece.result.2.now c.next-piece.result.3 = record {
      some = omega (arith, false-eqb _ 0 c.pieces-test.ensures);
      kind = sym c.in-Token.is ∙ c.next-piece.ensures.kind;
      front = c.next-piece.ensures.front;
      rest = c.next-piece.ensures.rest;
      place = c.next-piece.ensures.place;
      room = c.next-piece.ensures.room;
      utf8 = c.next-piece.ensures.utf8;
    } in
    cutting-token c.args.place c.args.text.now c.pieces.place c.pieces.rest.now c.in-Token.kind
    c.next-piece.result.1.now c.next-piece.result.2.now c.next-piece.result.3 _ c.pieces.invariant n refl refl refl

pub pieces-preserved-in-Gap : goal.pieces-preserved-in-Gap
pieces-preserved-in-Gap c =
    let n : IsNext c.pieces.place c.pieces.rest.now pieces.Gap c.next-piece.result.1.now c.next-piece.result.2.now
    c.next-piece.result.3 = record {
      some = omega (arith, false-eqb _ 0 c.pieces-test.ensures);
      kind = sym c.in-Gap.is ∙ c.next-piece.ensures.kind;
      front = c.next-piece.ensures.front;
      rest = c.next-piece.ensures.rest;
      place = c.next-piece.ensures.place;
      room = c.next-piece.ensures.room;
      utf8 = c.next-piece.ensures.utf8;
    } in
    cutting-gap c.args.place c.args.text.now c.pieces.place c.pieces.rest.now pieces.Gap c.next-piece.result.1.now
    c.next-piece.result.2.now c.next-piece.result.3 c.pieces.invariant n (λ others. refl)

pub pieces-preserved : goal.pieces-preserved
pieces-preserved c =
    let n : IsNext c.pieces.place c.pieces.rest.now pieces.Stray c.next-piece.result.1.now c.next-piece.result.2.now
    c.next-piece.result.3 = record {
      some = omega (arith, false-eqb _ 0 c.pieces-test.ensures);
      kind = sym c.in-Stray.is ∙ c.next-piece.ensures.kind;
      front = c.next-piece.ensures.front;
      rest = c.next-piece.ensures.rest;
      place = c.next-piece.ensures.place;
      room = c.next-piece.ensures.room;
      utf8 = c.next-piece.ensures.utf8;
    } in
    cutting-gap c.args.place c.args.text.now c.pieces.place c.pieces.rest.now pieces.Stray c.next-piece.result.1.now
    c.next-piece.result.2.now c.next-piece.result.3 c.pieces.invariant n (λ others. refl)

pub returns : goal.returns
returns c = cutting-end c.args.place c.args.text.now c.pieces.place c.pieces.rest.now _ c.pieces.invariant
    (eqb-true _ _ (sym c.pieces-test.ensures)) refl refl refl
