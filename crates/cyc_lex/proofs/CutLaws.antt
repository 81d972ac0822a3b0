-- Laws of texts that are cut token by token.
use Rattle.std.proofs.Common.{Bool, ◌≡◌, ℕ, zero, suc, ◌+◌, ◌^◌, ◌<◌, true, List, [], ◌∷◌, ◌++◌, length, take, drop, Ok}
use Rattle.std.proofs.Common.{refl, sym, ap, subst, ◌∙◌, arith, inl, inr, length-append}
use Rattle.std.specs.Prelude.{map, nat_lt, slice_get, ◌⊎◌}
use Rattle.std.proofs.lemmas.List.{length-map, nil_from_length}
use Rattle.std.specs.Str.{chars, encode_utf8_all, IsUtf8}
use Rattle.cyc_lex.specs.declared.token.Kind.{Kind}
use Rattle.cyc_lex.specs.declared.token.Kind.TheVariants.{Name, Number, Symbol, End}
use Rattle.cyc_lex.specs.declared.token.Token.{Token}
use Rattle.cyc_lex.specs.declared.cuts.Cut.{Cut}
use Rattle.cyc_lex.specs.declared.place.Place.{Place}
use Rattle.cyc_lex.specs.declared.place.Piece.{Piece}
use Rattle.cyc_lex.specs.declared.place.Piece.TheVariants as pieces
use Rattle.cyc_lex.specs.declared.place.Bad.TheVariants as bads
use Rattle.cyc_lex.specs.Placed.{Placed, placed}
use Rattle.cyc_lex.specs.Lexing.{comment_len, pass, pass_all, piece_at, piece_of, piece_chars, piece_rest, HasRoom}
use Rattle.cyc_lex.specs.Lexing.{token_at, with_token, taken, len_fault, lex}
use Rattle.cyc_lex.specs.Cutting.{with_piece, cut_tokens, cut_text, IsCut}
use Rattle.cyc_lex.proofs.Lexed.{Found, IsNext, IsLexed, some-chars, nil-chars, after-gap, after-token, at-end}
use Rattle.cyc_lex.proofs.Lexed.{with_tokens-ok}
use Rattle.cyc_lex.proofs.TokenLaws.{found, with_token-found, cond-found}

pub cut-skip : (p : Place) (k : ℕ) (cs : List ℕ) → cut_tokens p k cs ≡ cut_tokens (pass_all p (take k cs)) 0 (drop k cs)
unfolding cut_tokens pass_all
cut-skip p zero cs = refl
cut-skip p (suc k) [] = refl
cut-skip p (suc k) (c ∷ cs) = cut-skip (pass p c) k cs

-- a text without the comment that goes on at its start
pub cut-comment : (p q : Place) (comment : Bool) (text rest : List ℕ)
    → chars rest ≡ drop (comment_len comment (chars text)) (chars text)
    → q ≡ pass_all p (take (comment_len comment (chars text)) (chars text))
    → cut_text p comment text ≡ cut_tokens q 0 (chars rest)
cut-comment p q comment text rest left place = cut-skip p (comment_len comment (chars text)) (chars text)
    ∙ sym (λ i. cut_tokens (place i) 0 (left i))

cut-piece : (p : Place) (cs : List ℕ) → 0 < length cs
    → cut_tokens p 0 cs ≡ with_piece (piece_of cs) p (encode_utf8_all (piece_chars cs))
    (cut_tokens (pass_all p (piece_chars cs)) 0 (piece_rest cs))
unfolding cut_tokens pass_all
cut-piece p [] h = absurd (omega arith)
cut-piece p (c ∷ cs) h = ap (λ r. with_piece (piece_at c cs).0 p (encode_utf8_all (c ∷ take (piece_at c cs).1 cs)) r)
    (cut-skip (pass p c) (piece_at c cs).1 cs)

-- after the first piece of a text
pub cut-next : (p : Place) (rest : List ℕ) (piece : Piece) (front after : List ℕ) (q : Place) → IsUtf8 rest
    → IsNext p rest piece front after q → cut_tokens p 0 (chars rest)
    ≡ with_piece piece p front (cut_tokens q 0 (chars after))
cut-next p rest piece front after q utf8 n = rw (n.kind, n.front, n.rest, n.place)
    (cut-piece p (chars rest) (some-chars rest utf8 n.some))

-- ---- a text without a fault has these tokens

module _ (p : Place) (bytes : List ℕ) (r : Found) (others : List Placed)
    (h : (us : List Placed) → r ≡ Ok us → others ≡ us) where
  with-one : (t : Placed) (ts : List Placed) → with_token t r ≡ found ts → t ∷ others ≡ ts
  with-one t ts e = let w = with_token-found t r ts e in ap (λ (us : List Placed). t ∷ us) (h w.0 w.1) ∙ sym w.2

  piece-lexed : (piece : Piece) (ts : List Placed) → taken piece p bytes r ≡ found ts
      → with_piece piece p bytes others ≡ ts
  piece-lexed pieces.Gap ts e = h ts e
  piece-lexed pieces.Stray ts e = absurd cc
  piece-lexed (pieces.Token Name) ts e = with-one (token_at Name p bytes) ts
      (cond-found (nat_lt 64 (length bytes)) (bads.LongName, p) (token_at Name p bytes) r ts e).1
  piece-lexed (pieces.Token Number) ts e = with-one (token_at Number p bytes) ts
      (cond-found (nat_lt 9 (length bytes)) (bads.LongNumber, p) (token_at Number p bytes) r ts e).1
  piece-lexed (pieces.Token Symbol) ts e = with-one (token_at Symbol p bytes) ts e
  piece-lexed (pieces.Token End) ts e = with-one (token_at End p bytes) ts e

pub cut-lexed : (p : Place) (k : ℕ) (cs : List ℕ) (ts : List Placed) → lex true p k cs ≡ found ts
    → cut_tokens p k cs ≡ ts
unfolding lex cut_tokens
cut-lexed p k [] ts h = cc
cut-lexed p (suc k) (c ∷ cs) ts h = cut-lexed (pass p c) k cs ts h
cut-lexed p zero (c ∷ cs) ts h =
    let m = piece_at c cs in
    piece-lexed p (encode_utf8_all (c ∷ take m.1 cs)) (lex true (pass p c) m.1 cs) (cut_tokens (pass p c) m.1 cs)
    (cut-lexed (pass p c) m.1 cs) m.0 ts h

-- ---- the loop that cuts one token off

-- what is left begins with the same token
pub record IsCutting (p0 : Place) (text : List ℕ) (p : Place) (rest : List ℕ) : Type 0 where
  pub tokens : cut_tokens p 0 (chars rest) ≡ cut_tokens p0 0 (chars text)
  pub room : HasRoom p (length rest)
  pub utf8 : IsUtf8 rest

pub cutting-gap : (p0 : Place) (text : List ℕ) (p : Place) (rest : List ℕ) (piece : Piece) (front after : List ℕ)
    (q : Place) → IsCutting p0 text p rest → IsNext p rest piece front after q
    → ((others : List Placed) → with_piece piece p front others ≡ others) → IsCutting p0 text q after
cutting-gap p0 text p rest piece front after q h n none = record {
  tokens = sym (cut-next p rest piece front after q h.utf8 n ∙ none (cut_tokens q 0 (chars after))) ∙ h.tokens;
  room = n.room;
  utf8 = n.utf8;
}

pub cutting-token : (p0 : Place) (text : List ℕ) (p : Place) (rest : List ℕ) (k : Kind) (front after : List ℕ)
    (q : Place) (c : Cut) → IsCutting p0 text p rest → IsNext p rest (pieces.Token k) front after q
    → placed c.token ≡ token_at k p front → c.place ≡ q → c.rest.now ≡ after → IsCut p0 text c
cutting-token p0 text p rest k front after q c h n same place left = record {
  others = cut_tokens q 0 (chars after);
  tokens = sym h.tokens ∙ cut-next p rest (pieces.Token k) front after q h.utf8 n
      ∙ ap (λ (t : Placed). t ∷ cut_tokens q 0 (chars after)) (sym same);
  behind = inl (sym (λ i. cut_tokens (place i) 0 (chars (left i))));
  room = subst (λ (x : Place). HasRoom x (length c.rest.now)) (sym place)
      (subst (λ (x : List ℕ). HasRoom q (length x)) (sym left) n.room);
  utf8 = subst IsUtf8 (sym left) n.utf8;
}

pub cutting-end : (p0 : Place) (text : List ℕ) (p : Place) (rest : List ℕ) (c : Cut) → IsCutting p0 text p rest
    → length rest ≡ 0 → placed c.token ≡ token_at End p rest → c.place ≡ p → c.rest.now ≡ rest → IsCut p0 text c
unfolding cut_tokens
cutting-end p0 text p rest c h none same place left = record {
  others = [];
  tokens = sym h.tokens ∙ ap (cut_tokens p 0) (nil-chars rest none)
      ∙ ap (λ (t : Placed). t ∷ []) (ap (token_at End p) (sym (nil_from_length rest none)) ∙ sym same);
  behind = inr refl;
  room = subst (λ (x : Place). HasRoom x (length c.rest.now)) (sym place)
      (subst (λ (x : List ℕ). HasRoom p (length x)) (sym left) h.room);
  utf8 = subst IsUtf8 (sym left) h.utf8;
}

-- ---- the loop that counts

pub record IsCounting (total : Found) (count : ℕ) (rest : List ℕ) (p : Place) : Type 0 where
  pub out : List Token
  pub lexed : IsLexed true total out rest p
  pub size : count ≡ length out + 1
  pub few : count + length rest < 2 ^ 32

pub counting-gap : (total : Found) (count : ℕ) (rest : List ℕ) (p : Place) (front after : List ℕ) (q : Place)
    → IsCounting total count rest p → IsNext p rest pieces.Gap front after q → length after < length rest
    → IsCounting total count after q
counting-gap total count rest p front after q h n less = record {
  out = h.out;
  lexed = after-gap true total h.out rest p front after q h.lexed n;
  size = h.size;
  few = omega (arith, h.few, less);
}

pub counting-token : (total : Found) (count : ℕ) (rest : List ℕ) (p : Place) (k : Kind) (front after : List ℕ)
    (q : Place) (t : Token) → IsCounting total count rest p → IsNext p rest (pieces.Token k) front after q
    → len_fault k p front ≡ Ok tt → placed t ≡ token_at k p front → length after < length rest
    → IsCounting total (count + 1) after q
counting-token total count rest p k front after q t h n short same less = record {
  out = h.out ++ t ∷ [];
  lexed = after-token true total h.out rest p k front after q t h.lexed n short same;
  size = omega (arith, h.size, length-append h.out (t ∷ []));
  few = omega (arith, h.few, less);
}

pub counted : (total : Found) (count : ℕ) (rest : List ℕ) (p : Place) (ts : List Placed) → IsCounting total count rest p
    → length rest ≡ 0 → ((us : List Placed) → total ≡ found us → ts ≡ us) → (total ≡ found ts) × (count ≡ length ts)
counted total count rest p ts h none is =
    let all : total ≡ found (map placed h.out ++ token_at End p [] ∷ []) = sym
    (at-end true total h.out rest p h.lexed none) ∙ with_tokens-ok (map placed h.out) (token_at End p [] ∷ []) in
    let same = is (map placed h.out ++ token_at End p [] ∷ []) all in (
      all ∙ ap found (sym same),
      omega (
        arith,
        h.size,
        ap length same,
        length-append (map placed h.out) (token_at End p [] ∷ []),
        length-map h.out placed,
      ),
    )

-- ---- the loop to a token by its number

-- the token from which on there are so many to the one with this number is cut off
pub record IsAtToken (ts : List Placed) (number : ℕ) (c : Cut) (left : ℕ) : Type 0 where
  pub others : List Placed
  pub is : slice_get (placed c.token ∷ others) left ≡ slice_get ts number
  pub within : left < length (placed c.token ∷ others)
  pub behind : (others ≡ cut_tokens c.place 0 (chars c.rest.now)) ⊎ (others ≡ [])
  pub room : HasRoom c.place (length c.rest.now)
  pub utf8 : IsUtf8 c.rest.now

pub at-first : (p : Place) (text : List ℕ) (ts : List Placed) (number : ℕ) (c : Cut) → IsCut p text c
    → ts ≡ cut_tokens p 0 (chars text) → number < length ts → IsAtToken ts number c number
at-first p text ts number c h is within =
    let all : ts ≡ placed c.token ∷ h.others = is ∙ h.tokens in
    record {
      others = h.others;
      is = ap (λ (us : List Placed). slice_get us number) (sym all);
      within = omega (arith, within, ap length all);
      behind = h.behind;
      room = h.room;
      utf8 = h.utf8;
    }
