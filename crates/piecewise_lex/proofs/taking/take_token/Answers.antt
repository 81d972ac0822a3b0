use Rattle.std.proofs.Common.{◌∙◌, ◌==◌, Bool, List, ℕ, length, refl, sym, ap, subst, arith, eqb-true}
use Rattle.std.specs.Prelude.{slice_index}
use Rattle.std.specs.Str.{chars}
use Rattle.std.proofs.lemmas.Result.{err_from_is_err_and}
use Rattle.cyc_lex.specs.declared.place.Piece.{Piece}
use Rattle.cyc_lex.specs.declared.place.Piece.TheVariants as pieces
use Rattle.piecewise_lex.specs.Taking.{stays}
use Rattle.cyc_lex.proofs.Lexed.{IsNext}
use Rattle.piecewise_lex.proofs.TakingLaws.{IsOn, front-some, front-hash, fewer-bytes, on-start, on-gap, at-token}
use Rattle.piecewise_lex.proofs.TakingLaws.{at-stray, at-long, all-held, all-empty}
use Rattle.piecewise_lex.proofs.taking.take_token.Goals as goal

pub pieces-init : goal.pieces-init
pieces-init c = on-start c.args.place c.args.comment (chars c.args.text.now)
    c.skip_comment.result.1 c.skip_comment.result.0.now c.skip_comment.ensures.rest c.skip_comment.ensures.place
    c.skip_comment.ensures.room c.skip_comment.ensures.utf8

pub returns : goal.returns
returns c =
    let d = all-empty c.args.place c.args.comment c.args.text.now c.pieces.place c.pieces.in_comment c.pieces.rest.now
    c.pieces.invariant (eqb-true _ _ (sym c.pieces-test.ensures)) in
    record { taken = d.taken; room = d.room; utf8 = d.utf8; nearer = d.waits; cut = d.cut }

pub returns-then-stays : goal.returns-then-stays
returns-then-stays c =
    let n : IsNext c.pieces.place c.pieces.rest.now c.next_piece-piece.result.0 c.next_piece-piece.result.1.now
    c.next_piece-piece.result.2.now c.next_piece-piece.result.3 = c.next_piece-piece.ensures in
    let d = all-held c.args.place c.args.comment c.args.text.now c.pieces.place c.pieces.in_comment c.pieces.rest.now
    c.next_piece-piece.result.0 c.next_piece-piece.result.1.now c.next_piece-piece.result.2.now
    c.next_piece-piece.result.3 c.pieces.invariant n (sym c.if-stays.ensures) in
    record { taken = d.taken; room = d.room; utf8 = d.utf8; nearer = d.waits; cut = d.cut }

pub returns-in-Stray : goal.returns-in-Stray
returns-in-Stray c =
    let n : IsNext c.pieces.place c.pieces.rest.now pieces.Stray c.next_piece-piece.result.1.now
    c.next_piece-piece.result.2.now c.next_piece-piece.result.3 = subst
    (λ (k : Piece). IsNext c.pieces.place c.pieces.rest.now k c.next_piece-piece.result.1.now
    c.next_piece-piece.result.2.now c.next_piece-piece.result.3) c.in-Stray.is c.next_piece-piece.ensures in
    at-stray c.args.place c.args.comment (chars c.args.text.now)
    c.pieces.place c.pieces.in_comment c.pieces.rest.now c.next_piece-piece.result.1.now
    c.next_piece-piece.result.2.now c.next_piece-piece.result.3 c.pieces.invariant n
    (ap (λ k. stays k c.next_piece-piece.result.1.now c.next_piece-piece.result.2.now) (sym c.in-Stray.is)
    ∙ sym c.if-stays.ensures)

pub returns-in_err-check_len-in-Token : goal.returns-in_err-check_len-in-Token
returns-in_err-check_len-in-Token c =
    let n : IsNext c.pieces.place c.pieces.rest.now (pieces.Token c.in-Token.kind)
    c.next_piece-piece.result.1.now c.next_piece-piece.result.2.now c.next_piece-piece.result.3 = subst
    (λ (k : Piece). IsNext c.pieces.place c.pieces.rest.now k c.next_piece-piece.result.1.now
    c.next_piece-piece.result.2.now c.next_piece-piece.result.3) c.in-Token.is c.next_piece-piece.ensures in
    let p = err_from_is_err_and c.from_residual.result c.from_residual.ensures.1 in
    rw (p.1, p.2) (at-long c.args.place c.args.comment (chars c.args.text.now)
    c.pieces.place c.pieces.in_comment c.pieces.rest.now c.in-Token.kind c.next_piece-piece.result.1.now
    c.next_piece-piece.result.2.now c.next_piece-piece.result.3 c.in_err-check_len-in-Token.field-0.0
    c.pieces.invariant n (ap (λ k. stays k c.next_piece-piece.result.1.now c.next_piece-piece.result.2.now)
    (sym c.in-Token.is) ∙ sym c.if-stays.ensures) (sym c.in_err-check_len-in-Token.ensures))

pub returns-in-Token : goal.returns-in-Token
returns-in-Token c =
    let n : IsNext c.pieces.place c.pieces.rest.now (pieces.Token c.in-Token.kind)
    c.next_piece-piece.result.1.now c.next_piece-piece.result.2.now c.next_piece-piece.result.3 = subst
    (λ (k : Piece). IsNext c.pieces.place c.pieces.rest.now k c.next_piece-piece.result.1.now
    c.next_piece-piece.result.2.now c.next_piece-piece.result.3) c.in-Token.is c.next_piece-piece.ensures in
    let d = at-token c.args.place c.args.comment c.args.text.now c.pieces.place c.pieces.in_comment c.pieces.rest.now
    c.in-Token.kind c.next_piece-piece.result.1.now c.next_piece-piece.result.2.now c.next_piece-piece.result.3
    (record {
      kind = c.in-Token.kind;
      text = c.next_piece-piece.result.1;
      line = c.pieces.place.line;
      column = c.pieces.place.column;
    }) c.pieces.invariant n
    (ap (λ k. stays k c.next_piece-piece.result.1.now c.next_piece-piece.result.2.now) (sym c.in-Token.is)
    ∙ sym c.if-stays.ensures) (sym c.in_ok-check_len-in-Token.ensures) refl in
    record {
      taken = d.taken;
      room = d.room;
      utf8 = d.utf8;
      nearer = (d.short, d.fewer, refl, d.lexeme, d.bytes);
      cut = d.cut;
    }

pub pieces-preserved : goal.pieces-preserved
pieces-preserved c =
    let n : IsNext c.pieces.place c.pieces.rest.now pieces.Gap c.next_piece-piece.result.1.now
    c.next_piece-piece.result.2.now c.next_piece-piece.result.3 = subst
    (λ (k : Piece). IsNext c.pieces.place c.pieces.rest.now k c.next_piece-piece.result.1.now
    c.next_piece-piece.result.2.now c.next_piece-piece.result.3) c.in-Gap.is c.next_piece-piece.ensures in
    let same = ap (λ (l : List ℕ). slice_index l 0 == 35) c.as_bytes.ensures.value
    ∙ front-hash c.args.place c.args.comment (chars c.args.text.now)
    c.pieces.place c.pieces.in_comment c.pieces.rest.now c.pieces.invariant pieces.Gap
    c.next_piece-piece.result.1.now c.next_piece-piece.result.2.now c.next_piece-piece.result.3 n in
    subst (λ (b : Bool). IsOn c.args.place c.args.comment (chars c.args.text.now)
    c.next_piece-piece.result.3 b c.next_piece-piece.result.2.now) (sym same)
    (on-gap c.args.place c.args.comment (chars c.args.text.now)
    c.pieces.place c.pieces.in_comment c.pieces.rest.now c.next_piece-piece.result.1.now
    c.next_piece-piece.result.2.now c.next_piece-piece.result.3 c.pieces.invariant n
    (ap (λ k. stays k c.next_piece-piece.result.1.now c.next_piece-piece.result.2.now) (sym c.in-Gap.is)
    ∙ sym c.if-stays.ensures))

pub bounds-as_bytes-0 : goal.bounds-as_bytes-0
bounds-as_bytes-0 c = omega (
  arith,
  ap length c.as_bytes.ensures.value,
  front-some c.args.place c.args.comment (chars c.args.text.now)
      c.pieces.place c.pieces.in_comment c.pieces.rest.now c.pieces.invariant c.next_piece-piece.result.0
      c.next_piece-piece.result.1.now c.next_piece-piece.result.2.now c.next_piece-piece.result.3
      c.next_piece-piece.ensures,
)

pub pieces-smaller : goal.pieces-smaller
pieces-smaller c = fewer-bytes c.args.place c.args.comment (chars c.args.text.now)
    c.pieces.place c.pieces.in_comment c.pieces.rest.now c.pieces.invariant c.next_piece-piece.result.0
    c.next_piece-piece.result.1.now c.next_piece-piece.result.2.now c.next_piece-piece.result.3
    c.next_piece-piece.ensures
