-- The tokens of any text, from any place on: they are lexemes and then the end, and no more than its bytes and one.
use Rattle.std.proofs.Common.{◌≡◌, ℕ, zero, suc, ◌+◌, ◌≤◌, true, List, [], ◌∷◌, length, take, refl, ap, sym, subst}
use Rattle.std.proofs.Common.{arith, inl, inr, length-append}
use Rattle.std.specs.Prelude.{map}
use Rattle.std.specs.Str.{encode_utf8_all, all_scalars}
use Rattle.std.specs.Char.{encode_utf8}
use Rattle.std.proofs.lemmas.Str.{length-encode, len_utf8_bounds}
use Rattle.cyc_lex.specs.declared.token.Kind.TheVariants.{End}
use Rattle.cyc_lex.specs.declared.place.Place.{Place}
use Rattle.cyc_lex.specs.Placed.{Placed}
use Rattle.cyc_lex.specs.Word.{Word, word_of, is_lexeme, EndsOnce}
use Rattle.cyc_lex.specs.Lexing.{pass, piece_at, token_at, lex}
use Rattle.cyc_lex.proofs.TokenLaws.{found, taken-found, piece-lexeme, scalars-after}

with-lexeme : (w : Word) (ws : List Word) → is_lexeme w ≡ true → EndsOnce ws → EndsOnce (w ∷ ws)
with-lexeme w ws h e = (w ∷ e.0, rw (h, e.1) refl, ap (λ x. w ∷ x) e.2)

pub lex-ends : (p : Place) (k : ℕ) (cs : List ℕ) (ts : List Placed) → all_scalars cs ≡ true → lex true p k cs ≡ found ts
    → EndsOnce (map word_of ts) × (length ts ≤ length cs + 1)
unfolding lex
lex-ends p k [] ts good e = let same : token_at End p [] ∷ [] ≡ ts = cc in
    (subst (λ (x : List Placed). EndsOnce (map word_of x)) same ([], refl, refl), omega (arith, ap length same))
lex-ends p (suc k) (c ∷ cs) ts good e = let more = lex-ends (pass p c) k cs ts (scalars-after c cs good) e in
    (more.0, omega (arith, more.1))
lex-ends p zero (c ∷ cs) ts good e =
    let m = piece_at c cs in
    let bytes = encode_utf8_all (c ∷ take m.1 cs) in
    elim (taken-found m.0 p bytes (lex true (pass p c) m.1 cs) ts e) [
      | inl f ↦ let more = lex-ends (pass p c) m.1 cs ts (scalars-after c cs good) f in (more.0, omega (arith, more.1))
      | inr f ↦
          let more = lex-ends (pass p c) m.1 cs f.others (scalars-after c cs good) f.rest in
          let here = piece-lexeme p c cs good f.kind f.is f.short in (
            subst (λ (x : List Placed). EndsOnce (map word_of x)) (sym f.all)
                (with-lexeme (record { kind = f.kind; text = bytes }) (map word_of f.others) here more.0),
            omega (arith, more.1, ap length f.all),
          )
    ]

-- a character takes a byte at least
pub few-chars : (cs : List ℕ) → length cs ≤ length (encode_utf8_all cs)
few-chars [] = omega arith
few-chars (c ∷ cs) = omega (
  arith,
  few-chars cs,
  length-append (encode_utf8 c) (encode_utf8_all cs),
  length-encode c,
  (len_utf8_bounds c).0,
)
