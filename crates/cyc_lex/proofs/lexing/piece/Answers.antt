use Rattle.std.proofs.Common.{ℕ, List, ◌∷◌, take, sym, ap, ◌∙◌}
use Rattle.std.specs.Str.{chars}
use Rattle.cyc_lex.specs.declared.place.Piece.{Piece}
use Rattle.cyc_lex.specs.Lexing.{pass_all, piece_of, piece_chars}
use Rattle.cyc_lex.proofs.Pieces.{pass_all-one}
use Rattle.cyc_lex.proofs.Plain.{plain-piece}
use Rattle.cyc_lex.proofs.lexing.piece.Goals as goal

pub returns-then-is_plain-clause-kind : goal.returns-then-is_plain-clause-kind
returns-then-is_plain-clause-kind c = sym (ap piece_of c.in-Some.ensures.chars
    ∙ ap (λ (m : Piece × ℕ). m.0) (plain-piece c.in-Some.c (chars c.in-Some.rest.now)
    (sym c.is_plain.ensures ∙ c.if-is_plain.true)))

pub returns-then-is_plain-clause-place : goal.returns-then-is_plain-clause-place
returns-then-is_plain-clause-place c =
    let alone = plain-piece c.in-Some.c (chars c.in-Some.rest.now) (sym c.is_plain.ensures ∙ c.if-is_plain.true) in
    c.pass-behind.ensures ∙ sym (ap (λ (cs : List ℕ). pass_all c.args.place (piece_chars cs)) c.in-Some.ensures.chars
    ∙ ap (λ (m : Piece × ℕ). pass_all c.args.place (c.in-Some.c ∷ take m.1 (chars c.in-Some.rest.now))) alone
    ∙ pass_all-one c.args.place c.in-Some.c)
