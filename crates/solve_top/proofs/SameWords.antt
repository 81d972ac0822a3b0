-- The words of tokens do not depend on the place where the lexing begins.
use Rattle.std.proofs.Common.{◌≡◌, ℕ, zero, suc, Bool, true, false, cond, List, [], ◌∷◌, length, take, refl, sym, ap}
use Rattle.std.proofs.Common.{◌∙◌}
use Rattle.std.specs.Prelude.{map, nat_lt}
use Rattle.std.specs.Str.{encode_utf8_all}
use Rattle.cyc_lex.specs.declared.token.Kind.TheVariants.{Name, Number, Symbol, End}
use Rattle.cyc_lex.specs.declared.place.Place.{Place}
use Rattle.cyc_lex.specs.declared.place.Piece.{Piece}
use Rattle.cyc_lex.specs.declared.place.Piece.TheVariants as pieces
use Rattle.cyc_lex.specs.declared.place.Bad.{Bad}
use Rattle.cyc_lex.specs.declared.place.Bad.TheVariants as bads
use Rattle.cyc_lex.specs.Placed.{Placed}
use Rattle.cyc_lex.specs.Word.{word_of}
use Rattle.cyc_lex.specs.Lexing.{pass, piece_at, token_at, with_token, taken, lex}
use Rattle.cyc_lex.proofs.Lexed.{Found}
use Rattle.cyc_lex.proofs.TokenLaws.{found, late, with_token-found}

-- the second has tokens of the same words
pub record HasSameWords (s : Found) (ts : List Placed) : Type 0 where
  pub tokens : List Placed
  pub is : s ≡ found tokens
  pub same : map word_of tokens ≡ map word_of ts

abbrev pub Repeats : Found → Found → Type 0
Repeats r s = (ts : List Placed) → r ≡ found ts → HasSameWords s ts

one-more : (t u : Placed) (r s : Found) → word_of t ≡ word_of u → Repeats r s
    → Repeats (with_token t r) (with_token u s)
one-more t u r s same h ts e =
    let w = with_token-found t r ts e in
    let k = h w.0 w.1 in
    record {
      tokens = u ∷ k.tokens;
      is = ap (with_token u) k.is;
      same = (λ i. sym same i ∷ k.same i) ∙ ap (map word_of) (sym w.2);
    }

long : (b : Bool) (r s : Found) (p q : Bad × Place) → Repeats r s → Repeats (cond b (late p) r) (cond b (late q) s)
long true r s p q h ts e = absurd cc
long false r s p q h ts e = h ts e

taken-repeats : (piece : Piece) (p q : Place) (bytes : List ℕ) (r s : Found) → Repeats r s
    → Repeats (taken piece p bytes r) (taken piece q bytes s)
taken-repeats pieces.Gap p q bytes r s h = h
taken-repeats pieces.Stray p q bytes r s h = λ ts e. absurd cc
taken-repeats (pieces.Token Name) p q bytes r s h = long (nat_lt 64 (length bytes)) _ _ (bads.LongName, p)
    (bads.LongName, q) (one-more (token_at Name p bytes) (token_at Name q bytes) r s refl h)
taken-repeats (pieces.Token Number) p q bytes r s h = long (nat_lt 9 (length bytes)) _ _ (bads.LongNumber, p)
    (bads.LongNumber, q) (one-more (token_at Number p bytes) (token_at Number q bytes) r s refl h)
taken-repeats (pieces.Token Symbol) p q bytes r s h = one-more (token_at Symbol p bytes) (token_at Symbol q bytes)
    r s refl h
taken-repeats (pieces.Token End) p q bytes r s h = one-more (token_at End p bytes) (token_at End q bytes) r s refl h

pub lex-repeats : (whole : Bool) (p q : Place) (k : ℕ) (cs : List ℕ) → Repeats (lex whole p k cs) (lex whole q k cs)
unfolding lex
lex-repeats true p q k [] = λ ts e.
    let same : token_at End p [] ∷ [] ≡ ts = cc in
    record { tokens = token_at End q [] ∷ []; is = refl; same = ap (map word_of) same }
lex-repeats false p q k [] = λ ts e. absurd cc
lex-repeats whole p q (suc k) (c ∷ cs) = lex-repeats whole (pass p c) (pass q c) k cs
lex-repeats whole p q zero (c ∷ cs) =
    let m = piece_at c cs in
    taken-repeats m.0 p q (encode_utf8_all (c ∷ take m.1 cs)) (lex whole (pass p c) m.1 cs)
    (lex whole (pass q c) m.1 cs) (lex-repeats whole (pass p c) (pass q c) m.1 cs)
