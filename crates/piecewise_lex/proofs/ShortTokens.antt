-- A token has at most 64 bytes.
use Rattle.std.proofs.Common.{◌≡◌, ℕ, zero, suc, ◌<◌, ◌≤◌, Ok, ◌∙◌, ap, Bool, true, false, List, [], ◌∷◌, length, take}
use Rattle.std.proofs.Common.{refl, sym, subst, arith, inl, inr}
use Rattle.std.specs.Prelude.{map, nat_le, nat_lt, All}
use Rattle.std.specs.Str.{encode_utf8_all, all_scalars, is_utf8, chars}
use Rattle.std.specs.List.{AllByRecursion, list_all}
use Rattle.std.specs.Char.{is_ascii_digit}
use Rattle.std.proofs.lemmas.Bool.Decides.{nat_tests}
use Rattle.std.proofs.lemmas.List.Elements.{All-from_recursion}
use Rattle.cyc_lex.specs.declared.token.Kind.TheVariants.{Name, Number, Symbol, End}
use Rattle.cyc_lex.specs.declared.token.Kind.{Kind}
use Rattle.cyc_lex.specs.declared.token.Token.{Token}
use Rattle.cyc_lex.specs.declared.place.Place.{Place}
use Rattle.cyc_lex.specs.Placed.{Placed, placed}
use Rattle.cyc_lex.specs.Characters.{symbols}
use Rattle.cyc_lex.specs.Word.{is_identifier, is_name_text, is_number_text, is_symbol_text, is_lexeme}
use Rattle.cyc_lex.specs.declared.place.Piece.TheVariants as pieces
use Rattle.cyc_lex.specs.Lexing.{pass, piece_at, piece_of, piece_chars, len_fault, token_at, lex}
use Rattle.piecewise_lex.specs.Owned.{IsShort}
use Rattle.cyc_lex.proofs.BoolParts.{and-parts}
use Rattle.cyc_lex.proofs.Symbols.{one-of}
use Rattle.cyc_lex.proofs.TokenLaws.{found, taken-found, piece-lexeme, scalars-after}

abbrev Small : List ℕ → Type 0
Small s = nat_le (length s) 64 ≡ true

small-name : (s : List ℕ) → is_name_text s ≡ true → Small s
unfolding is_name_text
small-name s h = (and-parts (nat_le (length s) 64) (is_identifier (chars s)) (and-parts (is_utf8 s) _ h).1).0

small-number : (s : List ℕ) → is_number_text s ≡ true → Small s
unfolding is_number_text
small-number s h =
    let p = (and-parts (nat_lt 0 (length s)) (nat_lt (length s) 10) (and-parts (list_all is_ascii_digit s) _ h).1).1 in
    grind (arith, nat_tests)

small-symbol : (s : List ℕ) → is_symbol_text s ≡ true → Small s
unfolding is_symbol_text
small-symbol s h = one-of Small symbols s (
  refl,
  (
    refl,
    (
      refl,
      (
        refl,
        (
          refl,
          (
            refl,
            (
              refl,
              (
                refl,
                (
                  refl,
                  (
                    refl,
                    (
                      refl,
                      (
                        refl,
                        (refl, (refl, (refl, (refl, (refl, (refl, (refl, (refl, tt)))))))),
                      ),
                    ),
                  ),
                ),
              ),
            ),
          ),
        ),
      ),
    ),
  ),
) h

small-lexeme : (k : Kind) (s : List ℕ) → is_lexeme (record { kind = k; text = s }) ≡ true → Small s
small-lexeme Name s h = small-name s h
small-lexeme Number s h = small-number s h
small-lexeme Symbol s h = small-symbol s h
small-lexeme End s h = absurd cc

-- the text has at most 64 bytes
abbrev Fits : Placed → Type 0
Fits t = length t.text ≤ 64

small-fits : (n : ℕ) → nat_le n 64 ≡ true → n ≤ 64
small-fits n h = grind (arith, nat_tests)

unplaced : (ts : List Token) → AllByRecursion Fits (map placed ts) → AllByRecursion IsShort ts
unplaced [] h = tt
unplaced (t ∷ ts) h = (h.0, unplaced ts h.1)

short-lex : (whole : Bool) (p : Place) (k : ℕ) (cs : List ℕ) (ts : List Placed) → all_scalars cs ≡ true
    → lex whole p k cs ≡ found ts → AllByRecursion Fits ts
unfolding lex
short-lex true p k [] ts good e = let same : token_at End p [] ∷ [] ≡ ts = cc in
    subst (AllByRecursion Fits) same (omega arith, tt)
short-lex false p k [] ts good e = absurd cc
short-lex whole p (suc k) (c ∷ cs) ts good e = short-lex whole (pass p c) k cs ts (scalars-after c cs good) e
short-lex whole p zero (c ∷ cs) ts good e =
    let m = piece_at c cs in
    let bytes = encode_utf8_all (c ∷ take m.1 cs) in
    elim (taken-found m.0 p bytes (lex whole (pass p c) m.1 cs) ts e) [
      | inl f ↦ short-lex whole (pass p c) m.1 cs ts (scalars-after c cs good) f
      | inr f ↦ subst (AllByRecursion Fits) (sym f.all) (
        small-fits (length bytes) (small-lexeme f.kind bytes (piece-lexeme p c cs good f.kind f.is f.short)),
        short-lex whole (pass p c) m.1 cs f.others (scalars-after c cs good) f.rest,
      )
    ]

-- each token of a text is short
pub short-all : (whole : Bool) (p : Place) (k : ℕ) (cs : List ℕ) (ts : List Token) → all_scalars cs ≡ true
    → lex whole p k cs ≡ found (map placed ts) → All IsShort ts
short-all whole p k cs ts good e = All-from_recursion IsShort ts
    (unplaced ts (short-lex whole p k cs (map placed ts) good e))

-- a piece that is a token is a lexeme
pub lexeme-piece : (p : Place) (cs : List ℕ) → all_scalars cs ≡ true → 0 < length cs → (k : Kind)
    → piece_of cs ≡ pieces.Token k → (front : List ℕ) → front ≡ encode_utf8_all (piece_chars cs)
    → len_fault k p front ≡ Ok tt → is_lexeme (record { kind = k; text = front }) ≡ true
lexeme-piece p [] good some k is front same fits = absurd (omega (arith, some))
lexeme-piece p (c ∷ cs) good some k is front same fits =
    ap (λ (s : List ℕ). is_lexeme (record { kind = k; text = s })) same
    ∙ piece-lexeme p c cs good k is (ap (len_fault k p) (sym same) ∙ fits)

-- a piece that is a token is short
pub short-piece : (p : Place) (cs : List ℕ) → all_scalars cs ≡ true → 0 < length cs → (k : Kind)
    → piece_of cs ≡ pieces.Token k → (front : List ℕ) → front ≡ encode_utf8_all (piece_chars cs)
    → len_fault k p front ≡ Ok tt → length front ≤ 64
short-piece p [] good some k is front same fits = absurd (omega (arith, some))
short-piece p (c ∷ cs) good some k is front same fits =
    let bytes = encode_utf8_all (piece_chars (c ∷ cs)) in
    let size = small-fits (length bytes) (small-lexeme k bytes
    (piece-lexeme p c cs good k is (ap (len_fault k p) (sym same) ∙ fits))) in
    omega (arith, size, ap length same)
