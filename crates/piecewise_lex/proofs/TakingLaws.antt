-- What the loop over the pieces of a text keeps, up to its next token.
use Rattle.std.proofs.Common.{◌≡◌, ℕ, zero, suc, ◌≤◌, ◌<◌, Bool, true, false, ◌&&◌, List, [], ◌∷◌, ◌++◌, length, take}
use Rattle.std.proofs.Common.{drop, Ok, Err, refl, sym, ap, subst, ◌∙◌, arith, length-append, append_assoc}
use Rattle.std.specs.Prelude.{nat_le, ◌==◌, slice_index}
use Rattle.std.specs.Str.{chars, encode_utf8_all, all_scalars, IsUtf8}
use Rattle.std.proofs.lemmas.Bool.{ne_eqb}
use Rattle.std.proofs.lemmas.Bool.Decides.{nat_tests}
use Rattle.std.proofs.lemmas.List.{take-append-drop, append-nil, nil_from_length}
use Rattle.std.proofs.lemmas.Str.{chars-encodes, encodes-chars, scalars-chars, length-encode, len_utf8_bounds}
use Rattle.std.proofs.lemmas.Str.{chars-nil}
use lib.Utf8.{scalar}
use Rattle.std.specs.Char.{encode_utf8}
use Rattle.cyc_lex.proofs.BoolParts.{and-parts}
use Rattle.cyc_lex.specs.declared.token.Kind.{Kind}
use Rattle.cyc_lex.specs.declared.token.Token.{Token}
use Rattle.cyc_lex.specs.declared.place.Place.{Place}
use Rattle.cyc_lex.specs.declared.place.Piece.{Piece}
use Rattle.cyc_lex.specs.declared.place.Piece.TheVariants as pieces
use Rattle.cyc_lex.specs.declared.place.Bad.{Bad}
use Rattle.cyc_lex.specs.declared.place.Bad.TheVariants as bads
use Rattle.cyc_lex.specs.declared.place.Stop.{Stop}
use Rattle.cyc_lex.specs.declared.place.Stop.TheVariants as stops
use Rattle.cyc_lex.specs.Placed.{Placed, placed}
use Rattle.cyc_lex.specs.Lexing.{pass, pass_all, piece_at, piece_of, piece_chars, piece_rest, HasRoom, token_at}
use Rattle.cyc_lex.specs.Lexing.{with_token, with_tokens, taken, len_fault, Stops}
use Rattle.piecewise_lex.specs.Feeding.{may_grow, is_held, taken_chars, held_chars, ends_in_comment, tokens_taken}
use Rattle.cyc_lex.specs.Lexing.{comment_len}
use Rattle.piecewise_lex.specs.Owned.{IsShort}
use Rattle.piecewise_lex.specs.Taking.{Reading, reading, tokens_in, cut_in, IsTail, HasTaken, Waits, stays}
use Rattle.piecewise_lex.proofs.FirstBytes.{first-byte-is}
use Rattle.piecewise_lex.proofs.ShortTokens.{short-piece, lexeme-piece}
use Rattle.cyc_lex.specs.Word.{word, word_of, is_lexeme}
use Rattle.cyc_lex.proofs.Pieces.{comment_len-false}
use Rattle.cyc_lex.proofs.Pieces.{pass_all-append, scalars-parts}
use Rattle.cyc_lex.specs.Cutting.{cut_tokens}
use Rattle.cyc_lex.proofs.CutLaws.{cut-skip, cut-next}
use Rattle.cyc_lex.proofs.Lexed.{Found, IsNext, with_tokens-err, with_tokens-append, with_tokens-ok, some-chars}
use Rattle.cyc_lex.proofs.Lexed.{taken-token, taken-long}
use Rattle.piecewise_lex.proofs.Carrying.{taken-held, taken-free, held-held, held-free, comment-held, comment-free}
use Rattle.piecewise_lex.proofs.Carrying.{tokens-held, tokens-free, taken-skip, held-skip, comment-skip, tokens-skip}

-- ---- the loop

-- what is taken of the rest, which stands at p, is what is taken of the characters cs0, which stand at p0
pub record IsOn (p0 : Place) (b0 : Bool) (cs0 : List ℕ) (p : Place) (b : Bool) (rest : List ℕ) : Type 0 where
  pub tokens : tokens_taken p 0 (chars rest) ≡ tokens_taken p0 (comment_len b0 cs0) cs0
  pub place : pass_all p (taken_chars 0 (chars rest)) ≡ pass_all p0 (taken_chars (comment_len b0 cs0) cs0)
  pub held : held_chars 0 (chars rest) ≡ held_chars (comment_len b0 cs0) cs0
  pub comment : ends_in_comment b 0 (chars rest) ≡ ends_in_comment b0 (comment_len b0 cs0) cs0
  pub room : HasRoom p (length rest)
  pub utf8 : IsUtf8 rest
  pub within : length (chars rest) ≤ length cs0
  pub bytes : length rest ≤ length (encode_utf8_all cs0)
  pub cut : cut_tokens p 0 (chars rest) ≡ cut_tokens p0 (comment_len b0 cs0) cs0
  pub tail : IsTail (chars rest) cs0

length-dropped : (n : ℕ) (cs : List ℕ) → length (drop n cs) ≤ length cs
length-dropped zero cs = omega arith
length-dropped (suc n) [] = omega arith
length-dropped (suc n) (c ∷ cs) = let less = length-dropped n cs in omega arith

dropped-bytes : (n : ℕ) (cs : List ℕ) → length (encode_utf8_all (drop n cs)) ≤ length (encode_utf8_all cs)
dropped-bytes zero cs = omega arith
dropped-bytes (suc n) [] = omega arith
dropped-bytes (suc n) (c ∷ cs) = let less = dropped-bytes n cs in
    omega (arith, length-append (encode_utf8 c) (encode_utf8_all cs))

pub on-start : (p0 : Place) (b0 : Bool) (cs0 : List ℕ) (p : Place) (rest : List ℕ)
    → chars rest ≡ drop (comment_len b0 cs0) cs0 → p ≡ pass_all p0 (take (comment_len b0 cs0) cs0)
    → HasRoom p (length rest) → IsUtf8 rest → IsOn p0 b0 cs0 p b0 rest
on-start p0 b0 cs0 p rest same place room utf8 =
    let k = comment_len b0 cs0 in
    record {
      tokens = (λ i. tokens_taken (place i) 0 (same i)) ∙ sym (tokens-skip p0 k cs0);
      place = (λ i. pass_all (place i) (taken_chars 0 (same i)))
          ∙ sym (ap (pass_all p0) (taken-skip k cs0) ∙ pass_all-append p0 (take k cs0) (taken_chars 0 (drop k cs0)));
      held = ap (held_chars 0) same ∙ sym (held-skip k cs0);
      comment = ap (ends_in_comment b0 0) same ∙ sym (comment-skip b0 k cs0);
      room = room;
      utf8 = utf8;
      within = omega (arith, ap length same, length-dropped k cs0);
      bytes = omega (
        arith,
        ap length (sym (encodes-chars rest utf8)),
        ap (λ (cs : List ℕ). length (encode_utf8_all cs)) same,
        dropped-bytes k cs0,
      );
      cut = (λ i. cut_tokens (place i) 0 (same i)) ∙ sym (cut-skip p0 k cs0);
      tail = (take k cs0, sym (ap (λ (t : List ℕ). take k cs0 ++ t) same ∙ take-append-drop k cs0));
    }

-- what comes after a piece that doesn't wait
record IsFree (p : Place) (cs : List ℕ) (b : Bool) : Type 0 where
  tokens : tokens_taken p 0 cs ≡ taken (piece_of cs) p (encode_utf8_all (piece_chars cs))
      (tokens_taken (pass_all p (piece_chars cs)) 0 (piece_rest cs))
  place : pass_all p (taken_chars 0 cs) ≡ pass_all (pass_all p (piece_chars cs)) (taken_chars 0 (piece_rest cs))
  held : held_chars 0 cs ≡ held_chars 0 (piece_rest cs)
  comment : ends_in_comment b 0 cs ≡ ends_in_comment (slice_index cs 0 == 35) 0 (piece_rest cs)

abbrev waits : List ℕ → Bool
waits [] = true
waits (c ∷ cs) = is_held c cs

free-parts : (p : Place) (cs : List ℕ) (b : Bool) → waits cs ≡ false → IsFree p cs b
unfolding pass_all
free-parts p [] b h = absurd cc
free-parts p (c ∷ cs) b h =
    let n = (piece_at c cs).1 in
    record {
      tokens = tokens-free c cs p h ∙ ap (taken (piece_at c cs).0 p (encode_utf8_all (c ∷ take n cs)))
          (tokens-skip (pass p c) n cs);
      place = ap (pass_all p) (taken-free c cs h ∙ ap (λ (t : List ℕ). c ∷ t) (taken-skip n cs))
          ∙ pass_all-append (pass p c) (take n cs) (taken_chars 0 (drop n cs));
      held = held-free c cs h ∙ held-skip n cs;
      comment = comment-free c cs b h ∙ comment-skip (c == 35) n cs;
    }

-- the code's test
length-drop-test : (n : ℕ) (cs : List ℕ) → (length (drop n cs) == 0) ≡ nat_le (length cs) n
length-drop-test zero [] = refl
length-drop-test zero (c ∷ cs) = ne_eqb _ _ (λ e. omega (arith, e)) ∙ sym (grind (arith, nat_tests))
length-drop-test (suc n) [] = sym (grind (arith, nat_tests))
length-drop-test (suc n) (c ∷ cs) = length-drop-test n cs ∙ grind (arith, nat_tests)

length-chars-test : (ds : List ℕ) → (length (encode_utf8_all ds) == 0) ≡ (length ds == 0)
length-chars-test [] = refl
length-chars-test (d ∷ ds) = ne_eqb _ _ (λ e. omega (
  arith,
  e,
  length-append (encode_utf8 d) (encode_utf8_all ds),
  length-encode d,
  (len_utf8_bounds d).0,
)) ∙ sym (ne_eqb _ _ (λ e. omega (arith, e)))

stays-chars : (cs front after : List ℕ) → all_scalars cs ≡ true → 0 < length cs
    → front ≡ encode_utf8_all (piece_chars cs) → IsUtf8 after → chars after ≡ piece_rest cs
    → stays (piece_of cs) front after ≡ waits cs
unfolding is_held
stays-chars [] front after good some f utf8 r = absurd (omega (arith, some))
stays-chars (c ∷ cs) front after good some f utf8 r =
    let n = (piece_at c cs).1 in
    let p = and-parts (scalar c) (all_scalars cs) good in
    let inner : all_scalars (take n cs) ≡ true = (scalars-parts (take n cs) (drop n cs)
    (ap all_scalars (take-append-drop n cs) ∙ p.1)).0 in
    let text : chars front ≡ c ∷ take n cs = ap chars f ∙ chars-encodes (c ∷ take n cs) (rw (p.0, inner) refl) in
    let ends : (length after == 0) ≡ nat_le (length cs) n = ap (λ (t : List ℕ). length t == 0)
    (sym (encodes-chars after utf8)) ∙ length-chars-test (chars after) ∙ ap (λ (t : List ℕ). length t == 0) r
    ∙ length-drop-test n cs in
    λ i. ends i && may_grow (piece_at c cs).0 (slice_index (text i) 0)

module _ (p0 : Place) (b0 : Bool) (cs0 : List ℕ) (p : Place) (b : Bool) (rest : List ℕ) (h : IsOn p0 b0 cs0 p b rest)
  where
    module _ (piece : Piece) (front after : List ℕ) (q : Place) (n : IsNext p rest piece front after q) where
      first-chars : 0 < length (chars rest)
      first-chars = some-chars rest h.utf8 n.some

      stays-is : stays piece front after ≡ waits (chars rest)
      stays-is = ap (λ k. stays k front after) n.kind
          ∙ stays-chars (chars rest) front after (scalars-chars rest h.utf8) first-chars n.front n.utf8 n.rest

      head-is : slice_index (chars front) 0 ≡ slice_index (chars rest) 0
      head-is = by (chars rest) (scalars-chars rest h.utf8) first-chars n.front
        where
          by : (cs : List ℕ) → all_scalars cs ≡ true → 0 < length cs → front ≡ encode_utf8_all (piece_chars cs)
              → slice_index (chars front) 0 ≡ slice_index cs 0
          by [] good some f = absurd (omega (arith, some))
          by (c ∷ cs) good some f =
              let k = (piece_at c cs).1 in
              let s = and-parts (scalar c) (all_scalars cs) good in
              let inner : all_scalars (take k cs) ≡ true = (scalars-parts (take k cs) (drop k cs)
              (ap all_scalars (take-append-drop k cs) ∙ s.1)).0 in
              ap (λ (t : List ℕ). slice_index t 0) (ap chars f ∙ chars-encodes (c ∷ take k cs) (rw (s.0, inner) refl))

      -- a piece has a character
      fewer : length (chars after) < length (chars rest)
      fewer = by (chars rest) first-chars n.rest
        where
          by : (cs : List ℕ) → 0 < length cs → chars after ≡ piece_rest cs → length (chars after) < length cs
          by [] some r = absurd (omega (arith, some))
          by (c ∷ cs) some r = omega (arith, ap length r, length-dropped (piece_at c cs).1 cs)

      pub fewer-bytes : length after < length rest
      fewer-bytes = by (chars rest) first-chars n.rest (ap length (sym (encodes-chars rest h.utf8)))
        where
          by : (cs : List ℕ) → 0 < length cs → chars after ≡ piece_rest cs → length rest ≡ length (encode_utf8_all cs)
              → length after < length rest
          by [] some r e = absurd (omega (arith, some))
          by (c ∷ cs) some r e =
              omega (
                arith,
                e,
                ap length (sym (encodes-chars after n.utf8)),
                ap (λ (x : List ℕ). length (encode_utf8_all x)) r,
                dropped-bytes (piece_at c cs).1 cs,
                length-append (encode_utf8 c) (encode_utf8_all cs),
                length-encode c,
                (len_utf8_bounds c).0,
              )

      -- a piece has a byte, and begins a comment where that is a '#'
      pub front-some : 0 < length front
      front-some = by (chars rest) first-chars n.front
        where
          by : (cs : List ℕ) → 0 < length cs → front ≡ encode_utf8_all (piece_chars cs) → 0 < length front
          by [] some f = absurd (omega (arith, some))
          by (c ∷ cs) some f = omega (
            arith,
            ap length f,
            length-append (encode_utf8 c)
                (encode_utf8_all (take (piece_at c cs).1 cs)),
            length-encode c,
            (len_utf8_bounds c).0,
          )

      pub front-hash : (slice_index front 0 == 35) ≡ (slice_index (chars front) 0 == 35)
      front-hash = by (chars rest) first-chars n.front ∙ ap (λ (x : ℕ). x == 35) (sym head-is)
        where
          by : (cs : List ℕ) → 0 < length cs → front ≡ encode_utf8_all (piece_chars cs)
              → (slice_index front 0 == 35) ≡ (slice_index cs 0 == 35)
          by [] some f = absurd (omega (arith, some))
          by (c ∷ cs) some f = first-byte-is front c (take (piece_at c cs).1 cs) 35 f front-some (omega arith)

      left-tail : IsTail (chars after) cs0
      left-tail = by (chars rest) first-chars n.rest h.tail
        where
          by : (cs : List ℕ) → 0 < length cs → chars after ≡ piece_rest cs → IsTail cs cs0 → IsTail (chars after) cs0
          by [] some r t = absurd (omega (arith, some))
          by (c ∷ cs) some r t =
              let k = (piece_at c cs).1 in
              let parted : cs ≡ take k cs ++ chars after = sym
              (ap (λ (x : List ℕ). take k cs ++ x) r ∙ take-append-drop k cs) in (
                t.0 ++ c ∷ take k cs,
                t.1 ∙ ap (λ (x : List ℕ). t.0 ++ c ∷ x) parted
                    ∙ sym (append_assoc t.0 (c ∷ take k cs) (chars after)),
              )

      module _ (free : stays piece front after ≡ false) where
        parts : IsFree p (chars rest) b
        parts = free-parts p (chars rest) b (sym stays-is ∙ free)

        next-tokens : tokens_taken p 0 (chars rest) ≡ taken piece p front (tokens_taken q 0 (chars after))
        next-tokens = parts.tokens ∙ sym (λ i. taken (n.kind i) p (n.front i) (tokens_taken (n.place i) 0 (n.rest i)))

        next-place : pass_all q (taken_chars 0 (chars after)) ≡ pass_all p0 (taken_chars (comment_len b0 cs0) cs0)
        next-place = (λ i. pass_all (n.place i) (taken_chars 0 (n.rest i))) ∙ sym parts.place ∙ h.place

        next-held : held_chars 0 (chars after) ≡ held_chars (comment_len b0 cs0) cs0
        next-held = ap (held_chars 0) n.rest ∙ sym parts.held ∙ h.held

        next-comment : ends_in_comment (slice_index (chars front) 0 == 35) 0 (chars after)
            ≡ ends_in_comment b0 (comment_len b0 cs0) cs0
        next-comment = (λ i. ends_in_comment (head-is i == 35) 0 (n.rest i)) ∙ sym parts.comment ∙ h.comment

pub on-gap : (p0 : Place) (b0 : Bool) (cs0 : List ℕ) (p : Place) (b : Bool) (rest : List ℕ) (front after : List ℕ)
    (q : Place) → IsOn p0 b0 cs0 p b rest → IsNext p rest pieces.Gap front after q
    → stays pieces.Gap front after ≡ false → IsOn p0 b0 cs0 q (slice_index (chars front) 0 == 35) after
on-gap p0 b0 cs0 p b rest front after q h n free = record {
  tokens = sym (next-tokens p0 b0 cs0 p b rest h pieces.Gap front after q n free) ∙ h.tokens;
  place = next-place p0 b0 cs0 p b rest h pieces.Gap front after q n free;
  held = next-held p0 b0 cs0 p b rest h pieces.Gap front after q n free;
  comment = next-comment p0 b0 cs0 p b rest h pieces.Gap front after q n free;
  room = n.room;
  utf8 = n.utf8;
  within = omega (arith, h.within, fewer p0 b0 cs0 p b rest h pieces.Gap front after q n);
  bytes = omega (arith, h.bytes, fewer-bytes p0 b0 cs0 p b rest h pieces.Gap front after q n);
  cut = sym (cut-next p rest pieces.Gap front after q h.utf8 n) ∙ h.cut;
  tail = left-tail p0 b0 cs0 p b rest h pieces.Gap front after q n;
}

-- where characters are left, whether a comment went on before them does not matter
any-comment : (b d : Bool) (cs : List ℕ) → 0 < length cs → ends_in_comment b 0 cs ≡ ends_in_comment d 0 cs
unfolding ends_in_comment
any-comment b d [] some = absurd (omega (arith, some))
any-comment b d (c ∷ cs) some = refl

some-bytes : (n : ℕ) → ((n == 0) && true) ≡ false → 0 < n
some-bytes n h = grind (arith, nat_tests)

-- the next token
pub record IsTokenTaken (p0 : Place) (b0 : Bool) (text : List ℕ) (t : Token) (q : Place) (after : List ℕ) : Type 0 where
  pub taken : HasTaken (reading p0 b0 text) (placed t ∷ []) (reading q false after)
  pub room : HasRoom q (length after)
  pub utf8 : IsUtf8 after
  pub short : IsShort t
  pub lexeme : is_lexeme (word t) ≡ true
  pub fewer : length (chars after) < length (chars text)
  pub bytes : length after < length (encode_utf8_all (chars text))
  pub cut : cut_in (reading p0 b0 text) ≡ placed t ∷ cut_in (reading q false after)

pub at-token : (p0 : Place) (b0 : Bool) (text : List ℕ) (p : Place) (b : Bool) (rest : List ℕ) (k : Kind)
    (front after : List ℕ) (q : Place) (t : Token) → IsOn p0 b0 (chars text) p b rest
    → IsNext p rest (pieces.Token k) front after q → stays (pieces.Token k) front after ≡ false
    → len_fault k p front ≡ Ok tt → placed t ≡ token_at k p front → IsTokenTaken p0 b0 text t q after
at-token p0 b0 text p b rest k front after q t h n free fits same =
    let cs0 = chars text in
    let r = tokens_taken q 0 (chars after) in
    let none = comment_len-false (chars after) in
    let one : taken (pieces.Token k) p front r ≡ with_token (placed t) r = taken-token k p front r fits
    ∙ ap (λ x. with_token x r) (sym same) in
    let less = fewer p0 b0 cs0 p b rest h (pieces.Token k) front after q n in
    let left : 0 < length (chars after) = some-chars after n.utf8 (some-bytes (length after) free) in
    let size : length t.text.now ≤ 64 = omega (
      arith,
      ap (λ (x : Placed). length x.text) same,
      short-piece p (chars rest) (scalars-chars rest h.utf8)
          (first-chars p0 b0 cs0 p b rest h (pieces.Token k) front after q n) k (sym n.kind) front n.front fits,
    ) in
    record {
      taken = record {
        tokens = ap (λ i. with_token (placed t) (tokens_taken q i (chars after))) none ∙ sym one
            ∙ sym (next-tokens p0 b0 cs0 p b rest h (pieces.Token k) front after q n free) ∙ h.tokens;
        held = ap (λ i. held_chars i (chars after)) none
            ∙ next-held p0 b0 cs0 p b rest h (pieces.Token k) front after q n free;
        place = ap (λ i. pass_all q (taken_chars i (chars after))) none
            ∙ next-place p0 b0 cs0 p b rest h (pieces.Token k) front after q n free;
        comment = ap (λ i. ends_in_comment false i (chars after)) none
            ∙ any-comment false (slice_index (chars front) 0 == 35) (chars after) left
            ∙ next-comment p0 b0 cs0 p b rest h (pieces.Token k) front after q n free;
        tail = left-tail p0 b0 cs0 p b rest h (pieces.Token k) front after q n;
      };
      room = n.room;
      utf8 = n.utf8;
      short = size;
      lexeme = ap (λ (x : Placed). is_lexeme (word_of x)) same
          ∙ lexeme-piece p (chars rest) (scalars-chars rest h.utf8)
          (first-chars p0 b0 cs0 p b rest h (pieces.Token k) front after q n) k (sym n.kind) front n.front fits;
      fewer = omega (arith, less, h.within);
      bytes = omega (arith, h.bytes, fewer-bytes p0 b0 cs0 p b rest h (pieces.Token k) front after q n);
      cut = sym h.cut ∙ cut-next p rest (pieces.Token k) front after q h.utf8 n
          ∙ ap (λ x. x ∷ cut_tokens q 0 (chars after)) (sym same)
          ∙ ap (λ i. placed t ∷ cut_tokens q i (chars after)) (sym none);
    }

pub at-stray : (p0 : Place) (b0 : Bool) (cs0 : List ℕ) (p : Place) (b : Bool) (rest : List ℕ) (front after : List ℕ)
    (q : Place) → IsOn p0 b0 cs0 p b rest → IsNext p rest pieces.Stray front after q
    → stays pieces.Stray front after ≡ false → tokens_taken p0 (comment_len b0 cs0) cs0 ≡ Err (bads.Byte, p)
at-stray p0 b0 cs0 p b rest front after q h n free = sym h.tokens
    ∙ next-tokens p0 b0 cs0 p b rest h pieces.Stray front after q n free

pub at-long : (p0 : Place) (b0 : Bool) (cs0 : List ℕ) (p : Place) (b : Bool) (rest : List ℕ) (k : Kind)
    (front after : List ℕ) (q : Place) (e : Stop) → IsOn p0 b0 cs0 p b rest
    → IsNext p rest (pieces.Token k) front after q → stays (pieces.Token k) front after ≡ false
    → len_fault k p front ≡ Err e
    → Stops e (tokens_taken p0 (comment_len b0 cs0) cs0)
at-long p0 b0 cs0 p b rest k front after q e h n free long =
    let r = tokens_taken q 0 (chars after) in
    let same : taken (pieces.Token k) p front r ≡ tokens_taken p0 (comment_len b0 cs0) cs0 = sym
    (next-tokens p0 b0 cs0 p b rest h (pieces.Token k) front after q n free) ∙ h.tokens in
    subst (Stops e) same (taken-long k p front r e long)

-- ---- where nothing is left but what waits

pub record IsAllTaken (p0 : Place) (b0 : Bool) (text : List ℕ) (p : Place) (d : Bool) (rest : List ℕ) : Type 0 where
  pub taken : HasTaken (reading p0 b0 text) [] (reading p d rest)
  pub room : HasRoom p (length rest)
  pub utf8 : IsUtf8 rest
  pub waits : Waits (reading p d rest)
  pub cut : cut_in (reading p0 b0 text) ≡ cut_in (reading p d rest)

done : (p0 : Place) (b0 : Bool) (text : List ℕ) (p : Place) (b d : Bool) (rest : List ℕ)
    → IsOn p0 b0 (chars text) p b rest → comment_len d (chars rest) ≡ 0 → tokens_taken p 0 (chars rest) ≡ Ok []
    → taken_chars 0 (chars rest) ≡ [] → held_chars 0 (chars rest) ≡ chars rest → ends_in_comment b 0 (chars rest) ≡ d
    → ends_in_comment d 0 (chars rest) ≡ d → IsAllTaken p0 b0 text p d rest
unfolding pass_all
done p0 b0 text p b d rest h none free nothing all goes again = record {
  taken = record {
    tokens = ap (λ i. tokens_taken p i (chars rest)) none ∙ h.tokens;
    held = ap (λ i. held_chars i (chars rest)) none ∙ h.held;
    place = ap (λ i. pass_all p (taken_chars i (chars rest))) none ∙ h.place;
    comment = ap (λ i. ends_in_comment d i (chars rest)) none ∙ again ∙ sym goes ∙ h.comment;
    tail = h.tail;
  };
  room = h.room;
  utf8 = h.utf8;
  waits = record {
    tokens = ap (λ i. tokens_taken p i (chars rest)) none ∙ free;
    held = ap (λ i. held_chars i (chars rest)) none ∙ all;
    place = ap (λ i. pass_all p (taken_chars i (chars rest))) none ∙ ap (pass_all p) nothing;
    comment = ap (λ i. ends_in_comment d i (chars rest)) none ∙ again;
  };
  cut = sym h.cut ∙ ap (λ i. cut_tokens p i (chars rest)) (sym none);
}

pub all-held : (p0 : Place) (b0 : Bool) (text : List ℕ) (p : Place) (b : Bool) (rest : List ℕ) (piece : Piece)
    (front after : List ℕ) (q : Place) → IsOn p0 b0 (chars text) p b rest → IsNext p rest piece front after q
    → stays piece front after ≡ true → IsAllTaken p0 b0 text p false rest
all-held p0 b0 text p b rest piece front after q h n held =
    let w : waits (chars rest) ≡ true = sym (stays-is p0 b0 (chars text) p b rest h piece front after q n) ∙ held in
    let s = by (chars rest) (some-chars rest h.utf8 n.some) w in
    done p0 b0 text p b false rest h (comment_len-false (chars rest)) s.0 s.1 s.2 s.3 s.4
  where
    by : (cs : List ℕ) → 0 < length cs → waits cs ≡ true
        → (tokens_taken p 0 cs ≡ Ok []) × (taken_chars 0 cs ≡ []) × (held_chars 0 cs ≡ cs)
        × (ends_in_comment b 0 cs ≡ false) × (ends_in_comment false 0 cs ≡ false)
    by [] some w = absurd (omega (arith, some))
    by (c ∷ cs) some w = (
      tokens-held c cs p w,
      taken-held c cs w,
      held-held c cs w,
      comment-held c cs b w,
      comment-held c cs false w,
    )

no-comment : (d : Bool) → comment_len d [] ≡ 0
unfolding comment_len
no-comment true = refl
no-comment false = refl

pub all-empty : (p0 : Place) (b0 : Bool) (text : List ℕ) (p : Place) (b : Bool) (rest : List ℕ)
    → IsOn p0 b0 (chars text) p b rest → length rest ≡ 0 → IsAllTaken p0 b0 text p b rest
unfolding tokens_taken taken_chars held_chars ends_in_comment
all-empty p0 b0 text p b rest h none =
    let nothing : chars rest ≡ [] = ap chars (nil_from_length rest none) ∙ chars-nil in
    let goes = ap (ends_in_comment b 0) nothing in
    done p0 b0 text p b b rest h (ap (comment_len b) nothing ∙ no-comment b) (ap (tokens_taken p 0) nothing)
    (ap (taken_chars 0) nothing) (ap (held_chars 0) nothing ∙ sym nothing) goes goes

-- ---- many tokens

pub taken-none : (r : Reading) → HasTaken r [] r
taken-none r = record { tokens = refl; held = refl; place = refl; comment = refl; tail = ([], refl) }

pub taken-more : (a b c : Reading) (xs ys : List Placed) → HasTaken a xs b → HasTaken b ys c → HasTaken a (xs ++ ys) c
taken-more a b c xs ys h k = record {
  tokens = with_tokens-append xs ys (tokens_in c) ∙ ap (with_tokens xs) k.tokens ∙ h.tokens;
  held = k.held ∙ h.held;
  place = k.place ∙ h.place;
  comment = k.comment ∙ h.comment;
  tail = (
    h.tail.0 ++ k.tail.0,
    h.tail.1 ∙ ap (λ (x : List ℕ). h.tail.0 ++ x) k.tail.1
        ∙ sym (append_assoc h.tail.0 k.tail.0 c.chars),
  );
}

pub taken-stops : (a b : Reading) (xs : List Placed) (e : Stop) → HasTaken a xs b → Stops e (tokens_in b)
    → Stops e (tokens_in a)
taken-stops a b xs stops.OutOfMemory h k = tt
taken-stops a b xs (stops.At bad place) h k = sym h.tokens ∙ ap (with_tokens xs) k ∙ with_tokens-err xs (bad, place)

-- all the tokens
pub taken-all : (a b : Reading) (xs : List Placed) → HasTaken a xs b → Waits b → tokens_in a ≡ Ok xs
taken-all a b xs h w = sym h.tokens ∙ ap (with_tokens xs) w.tokens ∙ with_tokens-ok xs []
    ∙ ap (λ ts. Ok ts) (append-nil xs)

-- where the first of these has a fault, the second has it
abbrev pub FailsWith : Found → Found → Type 0
FailsWith a b = (e : Bad × Place) → a ≡ Err e → b ≡ Err e

pub stops-with : (stop : Stop) (a b : Found) → FailsWith a b → Stops stop a → Stops stop b
stops-with stops.OutOfMemory a b h k = tt
stops-with (stops.At bad place) a b h k = h (bad, place) k
