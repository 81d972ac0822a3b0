-- The first byte of a text, where it is that of an ASCII character.
use Rattle.std.proofs.Common.{◌≡◌, ℕ, ◌+◌, ◌<◌, ◌==◌, Bool, true, false, List, [], ◌∷◌, ◌++◌, length, take, drop, refl}
use Rattle.std.proofs.Common.{sym, ap, subst, ◌∙◌, arith, ne_eqb, eqb-true, false-eqb, lit<}
use Rattle.std.specs.Prelude.{slice_index}
use Rattle.std.specs.Char.{encode_utf8}
use Rattle.std.specs.Str.{all_scalars, chars, encode_utf8_all, IsUtf8}
use Rattle.std.proofs.lemmas.Str.{chars-encodes, encodes-chars, scalars-chars, encode_ascii, len_utf8_ascii}
use Rattle.std.proofs.lemmas.Str.{byte_from_char, char_from_byte}
use lib.Utf8.{scalar}
use Rattle.cyc_lex.specs.declared.token.Kind.TheVariants.{Symbol}
use Rattle.cyc_lex.specs.declared.place.Place.{Place}
use Rattle.cyc_lex.specs.declared.place.Piece.{Piece}
use Rattle.cyc_lex.specs.declared.place.Piece.TheVariants as pieces
use Rattle.cyc_lex.specs.Characters.{is_plain}
use Rattle.cyc_lex.specs.Lexing.{pass, pass_all, piece_of, piece_chars, piece_rest, HasRoom}
use Rattle.cyc_lex.proofs.BoolParts.{and-parts}
use Rattle.cyc_lex.proofs.Lexed.{IsNext}
use Rattle.cyc_lex.proofs.Members.{one-of}
use Rattle.cyc_lex.proofs.Plain.{plain-piece}
use Rattle.piecewise_lex.specs.Taking.{IsSingle}

-- a test of the first byte for an ASCII character is one of the first character
pub first-byte-is : (bytes : List ℕ) (d : ℕ) (ds : List ℕ) (a : ℕ) → bytes ≡ encode_utf8_all (d ∷ ds) → 0 < length bytes
    → a < 128 → (slice_index bytes 0 == a) ≡ (d == a)
first-byte-is bytes d ds a is some ascii = by (slice_index bytes 0 == a) refl
  where
    by : (x : Bool) → (slice_index bytes 0 == a) ≡ x → x ≡ (d == a)
    by true e = sym e ∙ ap (λ (x : ℕ). x == a) (sym (char_from_byte bytes (encode_utf8_all ds) d is
        (omega (arith, ascii, eqb-true _ _ e)) some))
    by false e = sym (ne_eqb d a (λ same. false-eqb (slice_index bytes 0) a (sym e)
        (byte_from_char bytes (encode_utf8_all ds) d is (omega (arith, ascii, same)) ∙ same)))

-- a piece of one byte
pub next-single : (p : Place) (text : List ℕ) (b : ℕ) (piece : Piece) → IsUtf8 text → HasRoom p (length text)
    → 0 < length text → slice_index text 0 ≡ b → IsSingle b piece
    → IsNext p text piece (take 1 text) (drop 1 text) (pass p b)
unfolding pass_all
next-single p text b piece utf8 room some first single = by (chars text) refl (encodes-chars text utf8)
  where
    by : (cs : List ℕ) → chars text ≡ cs → encode_utf8_all cs ≡ text
        → IsNext p text piece (take 1 text) (drop 1 text) (pass p b)
    by [] same e = absurd (omega (arith, some, ap length (sym e)))
    by (c ∷ cs) same e =
        let rest = encode_utf8_all cs in
        let is : c ≡ b = char_from_byte text rest c (sym e) (omega (arith, first, single.ascii)) some ∙ first in
        let all : chars text ≡ b ∷ cs = same ∙ ap (λ (x : ℕ). x ∷ cs) is in
        let bytes : text ≡ b ∷ rest = sym e ∙ ap (λ (x : ℕ). encode_utf8 x ++ rest) is
        ∙ ap (λ (l : List ℕ). l ++ rest) (encode_ascii b single.ascii) in
        let scalars : all_scalars cs ≡ true = (and-parts (scalar c) (all_scalars cs)
        (sym (ap all_scalars same) ∙ scalars-chars text utf8)).1 in
        let front : piece_chars (b ∷ cs) ≡ b ∷ [] = ap (λ (m : Piece × ℕ). b ∷ take m.1 cs) (single.alone cs) in
        let behind : pass p b ≡ record { offset = p.offset + 1; line = p.line; column = p.column + 1 } = rw
        (single.same_line, len_utf8_ascii b single.ascii) refl in
        record {
          some = some;
          kind = sym (ap (λ (m : Piece × ℕ). m.0) (single.alone cs)) ∙ ap piece_of (sym all);
          front = ap (take 1) bytes ∙ sym (ap (λ (l : List ℕ). l ++ []) (encode_ascii b single.ascii))
              ∙ ap encode_utf8_all (sym front) ∙ ap (λ (x : List ℕ). encode_utf8_all (piece_chars x)) (sym all);
          rest = ap (λ (x : List ℕ). chars (drop 1 x)) bytes ∙ chars-encodes cs scalars
              ∙ sym (ap (λ (m : Piece × ℕ). drop m.1 cs) (single.alone cs)) ∙ ap piece_rest (sym all);
          place = ap (pass_all p) (sym front) ∙ ap (λ (x : List ℕ). pass_all p (piece_chars x)) (sym all);
          room = subst (λ (q : Place). HasRoom q (length (drop 1 text))) (sym behind)
              (record {
                offset = omega (
                  arith,
                  room.offset,
                  ap length bytes,
                  ap (λ (x : List ℕ). length (drop 1 x)) bytes,
                );
                line = omega (arith, room.line);
                column = omega (arith, room.column);
              });
          utf8 = (cs, (scalars, sym (ap (drop 1) bytes)));
        }

abbrev IsWithin : ℕ → Type 0
IsWithin c = (c < 128) × ((c == 10) ≡ false)

pub plain-single : (b : ℕ) → is_plain b ≡ true → IsSingle b (pieces.Token Symbol)
plain-single b h =
    let small = one-of IsWithin (40 ∷ 91 ∷ 123 ∷ 41 ∷ 93 ∷ 125 ∷ 44 ∷ 59 ∷ 42 ∷ 61 ∷ 46 ∷ 36 ∷ 63 ∷ 39 ∷ []) b (
      one 40 (lit< tt) refl,
      (
        one 91 (lit< tt) refl,
        (
          one 123 (lit< tt) refl,
          (
            one 41 (lit< tt) refl,
            (
              one 93 (lit< tt) refl,
              (
                one 125 (lit< tt) refl,
                (
                  one 44 (lit< tt) refl,
                  (
                    one 59 (lit< tt) refl,
                    (
                      one 42 (lit< tt) refl,
                      (
                        one 61 (lit< tt) refl,
                        (
                          one 46 (lit< tt) refl,
                          (
                            one 36 (lit< tt) refl,
                            (one 63 (lit< tt) refl, (one 39 (lit< tt) refl, tt)),
                          ),
                        ),
                      ),
                    ),
                  ),
                ),
              ),
            ),
          ),
        ),
      ),
    ) h in
    record { ascii = small.0; same_line = small.1; alone = λ cs. plain-piece b cs h }
  where
    one : (c : ℕ) → c < 128 → (c == 10) ≡ false → IsWithin c
    one c l e = (l, e)
