-- What is taken of bytes stays as it is, whatever bytes come.
use Rattle.std.proofs.Common.{◌≡◌, ℕ, zero, suc, ◌+◌, ◌-◌, ◌<◌, ◌≤◌, Bool, true, false, cond, List, [], ◌∷◌, ◌++◌}
use Rattle.std.proofs.Common.{length, take, drop, Option, Some, None, refl, sym, ap, subst, ◌∙◌, arith, inl, inr}
use Rattle.std.proofs.Common.{⊎_elim, append_assoc, length-append, eqb-true}
use Rattle.std.specs.Prelude.{◌==◌, is_none}
use Rattle.std.specs.Str.{chars, encode_utf8_all, all_scalars, IsUtf8}
use Rattle.std.specs.Str.Lossy.{utf8_valid_len, utf8_error_len}
use Rattle.std.proofs.lemmas.Bool.{cases_Bool, eq-eqb, ne_eqb, both_ways}
use Rattle.std.proofs.lemmas.List.{take_at, take_all, take-append-drop, append-nil}
use Rattle.std.proofs.lemmas.Str.{chars-encodes, chars-append, encodes-append, encodes-chars, scalars-chars}
use Rattle.std.proofs.lemmas.Str.{utf8_valid_len-IsUtf8}
use Rattle.cyc_lex.specs.declared.place.Place.{Place}
use Rattle.cyc_lex.specs.Lexing.{pass_all, piece_at, ended, lex}
use Rattle.piecewise_lex.specs.Feeding.{is_held, taken_chars, held_chars, ends_in_comment, tokens_taken, valid_chars}
use Rattle.piecewise_lex.specs.Feeding.{after_valid, is_cut, tokens_from, waiting_in, taken_in, comment_after}
use Rattle.cyc_lex.specs.Lexing.{comment_len}
use Rattle.cyc_lex.proofs.Pieces.{scalars-parts}
use Rattle.cyc_lex.proofs.Lexed.{Found}
use Rattle.piecewise_lex.proofs.Carrying.{Agrees, IsSkip, then_tokens, Carries, carry}
use Rattle.cyc_lex.proofs.Pieces.{comment_len-true, comment_len-false}
use Rattle.piecewise_lex.proofs.Utf8Cuts.{valid-front, valid-append, valid-tail, stays-bad, take-behind, take-within}
use Rattle.piecewise_lex.proofs.Utf8Cuts.{error-nil}
use Rattle.std.proofs.str.Laws.{order}

-- ---- characters of bytes

shift-test : (n a b : ℕ) → (n + a == n + b) ≡ (a == b)
shift-test n a b = ⊎_elim
    (λ (yes : (a == b) ≡ true). eq-eqb (n + a) (n + b) (ap (λ k. n + k) (eqb-true a b yes)) ∙ sym yes)
    (λ (no : (a == b) ≡ false). ne_eqb (n + a) (n + b) (λ e. both_ways (a == b) no (eq-eqb a b (omega (arith, e))))
    ∙ sym no)
    (cases_Bool (a == b))

-- whether all of the bytes are characters
abbrev is_whole : List ℕ → Bool
is_whole bytes = utf8_valid_len bytes == length bytes

module _ (xs ys : List ℕ) (good : all_scalars xs ≡ true) where
  text : IsUtf8 (encode_utf8_all xs)
  text = (xs, (good, refl))

  pub chars-behind : valid_chars (encode_utf8_all xs ++ ys) ≡ xs ++ valid_chars ys
  unfolding valid_chars
  chars-behind =
      ap (λ n. chars (take n (encode_utf8_all xs ++ ys))) (valid-append (encode_utf8_all xs) ys text)
      ∙ ap chars (take-behind (encode_utf8_all xs) ys (utf8_valid_len ys))
      ∙ chars-append (encode_utf8_all xs) (take (utf8_valid_len ys) ys) text
      ∙ ap (λ (t : List ℕ). t ++ chars (take (utf8_valid_len ys) ys)) (chars-encodes xs good)

  pub whole-behind : is_whole (encode_utf8_all xs ++ ys) ≡ is_whole ys
  whole-behind =
      (λ i. valid-append (encode_utf8_all xs) ys text i == length-append (encode_utf8_all xs) ys i)
      ∙ shift-test (length (encode_utf8_all xs)) (utf8_valid_len ys) (length ys)

pub chars-of-text : (xs : List ℕ) → all_scalars xs ≡ true → valid_chars (encode_utf8_all xs) ≡ xs
unfolding valid_chars
chars-of-text xs good =
    let n-is = utf8_valid_len-IsUtf8 (encode_utf8_all xs) (xs, (good, refl)) in
    ap chars (take_all (utf8_valid_len (encode_utf8_all xs)) (encode_utf8_all xs) (omega (arith, n-is)))
    ∙ chars-encodes xs good

pub whole-of-text : (xs : List ℕ) → all_scalars xs ≡ true → is_whole (encode_utf8_all xs) ≡ true
whole-of-text xs good = eq-eqb _ _ (utf8_valid_len-IsUtf8 (encode_utf8_all xs) (xs, (good, refl)))

pub valid-good : (bytes : List ℕ) → all_scalars (valid_chars bytes) ≡ true
unfolding valid_chars
valid-good bytes = scalars-chars (take (utf8_valid_len bytes) bytes) (valid-front bytes)

pub valid-parts : (bytes : List ℕ) → encode_utf8_all (valid_chars bytes) ++ after_valid bytes ≡ bytes
unfolding valid_chars
valid-parts bytes = ap (λ (t : List ℕ). t ++ after_valid bytes)
    (encodes-chars (take (utf8_valid_len bytes) bytes) (valid-front bytes))
    ∙ take-append-drop (utf8_valid_len bytes) bytes

pub taken-and-held : (k : ℕ) (cs : List ℕ) → taken_chars k cs ++ held_chars k cs ≡ cs
unfolding taken_chars held_chars
taken-and-held k [] = refl
taken-and-held (suc k) (c ∷ cs) = ap (λ (t : List ℕ). c ∷ t) (taken-and-held k cs)
taken-and-held zero (c ∷ cs) = by_test (is_held c cs) (taken-and-held (piece_at c cs).1 cs)
  where
    by_test : (b : Bool) → taken_chars (piece_at c cs).1 cs ++ held_chars (piece_at c cs).1 cs ≡ cs
        → cond b [] (c ∷ taken_chars (piece_at c cs).1 cs) ++ cond b (c ∷ cs) (held_chars (piece_at c cs).1 cs) ≡ c ∷ cs
    by_test true h = refl
    by_test false h = ap (λ (t : List ℕ). c ∷ t) h

-- ---- the law over bytes

module _ (comment : Bool) (bytes : List ℕ) where
  unfoldable pub all_chars : List ℕ
  all_chars = valid_chars bytes

  abbrev pub skipped : ℕ
  skipped = comment_len comment all_chars

  abbrev pub kept : List ℕ
  kept = taken_chars skipped all_chars

  abbrev pub left : List ℕ
  left = held_chars skipped all_chars

  pub good-parts : (all_scalars kept ≡ true) × (all_scalars left ≡ true)
  unfolding all_chars
  good-parts = scalars-parts kept left (ap all_scalars (taken-and-held skipped all_chars) ∙ valid-good bytes)

  -- the bytes are those that are taken, those that wait, and more
  pub bytes-parts : bytes ≡ encode_utf8_all kept ++ (encode_utf8_all left ++ after_valid bytes)
  unfolding all_chars
  bytes-parts =
      sym (valid-parts bytes)
      ∙ ap (λ (t : List ℕ). encode_utf8_all t ++ after_valid bytes) (sym (taken-and-held skipped all_chars))
      ∙ ap (λ (t : List ℕ). t ++ after_valid bytes) (encodes-append kept left)
      ∙ append_assoc (encode_utf8_all kept) (encode_utf8_all left) (after_valid bytes)

  pub waiting-cut : is_cut bytes ≡ true → waiting_in comment bytes ≡ encode_utf8_all left ++ after_valid bytes
  unfolding waiting_in all_chars
  waiting-cut h = ap (λ b. cond b (encode_utf8_all left ++ after_valid bytes) []) h

  pub waiting-bad : is_cut bytes ≡ false → waiting_in comment bytes ≡ []
  unfolding waiting_in all_chars
  waiting-bad h = ap (λ b. cond b (encode_utf8_all left ++ after_valid bytes) []) h

  pub taken-cut : is_cut bytes ≡ true → taken_in comment bytes ≡ encode_utf8_all kept
  unfolding taken_in
  taken-cut h =
      let w = encode_utf8_all left ++ after_valid bytes in
      let len : length bytes ≡ length (encode_utf8_all kept) + length w = ap length bytes-parts
      ∙ length-append (encode_utf8_all kept) w in
      let n : length (encode_utf8_all kept) ≡ length bytes - length (waiting_in comment bytes) = omega
      (arith, len, ap length (waiting-cut h)) in
      ap (take (length bytes - length (waiting_in comment bytes))) bytes-parts ∙ take_at (encode_utf8_all kept) w _ n

  pub taken-bad : is_cut bytes ≡ false → taken_in comment bytes ≡ bytes
  unfolding taken_in
  taken-bad h = take_all (length bytes - length (waiting_in comment bytes)) bytes
      (omega (arith, ap length (waiting-bad h)))

  -- z may stand where the characters that wait do
  skips : (z : List ℕ) → IsSkip comment skipped (comment_len comment (kept ++ z)) all_chars z
  skips z = by comment
    where
      by : (b : Bool) → IsSkip b (comment_len b all_chars) (comment_len b
          (taken_chars (comment_len b all_chars) all_chars ++ z)) all_chars z
      by true = (comment_len-true all_chars, comment_len-true (taken_chars (comment_len true all_chars) all_chars ++ z))
      by false = (
        omega (arith, comment_len-false all_chars),
        comment_len-false (taken_chars (comment_len false all_chars) all_chars ++ z)
            ∙ sym (comment_len-false all_chars),
      )

  -- the tokens that are taken, and the place after them
  abbrev pub handed : Place → Found
  handed p = tokens_taken p skipped all_chars

  abbrev pub place_behind : Place → Place
  place_behind p = pass_all p kept

  abbrev goes : Bool
  goes = ends_in_comment comment skipped all_chars

  agrees-nil : (hs : List ℕ) → Agrees hs []
  agrees-nil [] = tt
  agrees-nil (h ∷ hs) = inl refl

  agrees-more : (hs z : List ℕ) → Agrees hs (hs ++ z)
  agrees-more [] z = tt
  agrees-more (h ∷ hs) z = inr (hs ++ z, refl)

  carried : (whole : Bool) (p : Place) (z : List ℕ) → Agrees left z
      → lex whole p (comment_len comment (kept ++ z)) (kept ++ z)
      ≡ then_tokens (handed p) (lex whole (place_behind p) (comment_len goes z) z)
  unfolding Carries
  carried whole p z h = carry whole p comment skipped (comment_len comment (kept ++ z)) all_chars z h (skips z)

  lex-nil : (p : Place) (k : ℕ) → lex true p k [] ≡ ended true p
  unfolding lex
  lex-nil p zero = refl
  lex-nil p (suc k) = refl

  -- the bytes that are taken have these tokens, and then the end
  pub taken-tokens : (p : Place) → is_cut bytes ≡ true
      → tokens_from p comment (taken_in comment bytes) ≡ then_tokens (handed p) (ended true (place_behind p))
  unfolding tokens_from
  taken-tokens p h =
      ap (tokens_from p comment) (taken-cut h)
      ∙ ap (λ (cs : List ℕ). lex (is_whole (encode_utf8_all kept)) p (comment_len comment cs) cs)
      (chars-of-text kept good-parts.0 ∙ sym (append-nil kept))
      ∙ ap (λ b. lex b p (comment_len comment (kept ++ [])) (kept ++ [])) (whole-of-text kept good-parts.0)
      ∙ carried true p [] (agrees-nil left)
      ∙ ap (then_tokens (handed p)) (lex-nil (place_behind p) (comment_len goes []))

  -- more bytes leave them as they are
  pub more-bytes : (p : Place) (rest : List ℕ) → is_cut bytes ≡ true
      → tokens_from p comment (bytes ++ rest) ≡ then_tokens (handed p)
      (tokens_from (place_behind p) (comment_after comment bytes) (waiting_in comment bytes ++ rest))
  unfolding tokens_from comment_after all_chars
  more-bytes p rest h =
      let w = encode_utf8_all left ++ after_valid bytes in
      let x = w ++ rest in
      let z = valid_chars x in
      let parts : bytes ++ rest ≡ encode_utf8_all kept ++ x = ap (λ (t : List ℕ). t ++ rest) bytes-parts
      ∙ append_assoc (encode_utf8_all kept) w rest in
      let begins : x ≡ encode_utf8_all left ++ (after_valid bytes ++ rest) = append_assoc (encode_utf8_all left)
      (after_valid bytes) rest in
      let here : z ≡ left ++ valid_chars (after_valid bytes ++ rest) = ap valid_chars begins
      ∙ chars-behind left (after_valid bytes ++ rest) good-parts.1 in
      let near : Agrees left z = subst (Agrees left) (sym here)
      (agrees-more left (valid_chars (after_valid bytes ++ rest))) in
      ap (tokens_from p comment) parts
      ∙ ap (λ (cs : List ℕ). lex (is_whole (encode_utf8_all kept ++ x)) p (comment_len comment cs) cs)
      (chars-behind kept x good-parts.0)
      ∙ ap (λ b. lex b p (comment_len comment (kept ++ z)) (kept ++ z)) (whole-behind kept x good-parts.0)
      ∙ carried (is_whole x) p z near
      ∙ ap (λ (t : List ℕ). then_tokens (handed p)
      (tokens_from (place_behind p) (comment_after comment bytes) (t ++ rest))) (sym (waiting-cut h))

-- ---- bytes that go wrong

abbrev some : ℕ → Option ℕ
some k = Some k

is-bad : (o : Option ℕ) → is_none o ≡ false → (k : ℕ) × (o ≡ some k)
is-bad None h = absurd cc
is-bad (Some k) h = (k, refl)

-- where a byte begins no character, whatever comes, more bytes change nothing
module _ (bytes rest : List ℕ) (bad : is_cut bytes ≡ false) where
  same-len : utf8_valid_len (bytes ++ rest) ≡ utf8_valid_len bytes
  same-len =
      let n = utf8_valid_len bytes in
      let tail = after_valid bytes in
      let k = is-bad (utf8_error_len tail) bad in
      let front = take n bytes in
      let parts : bytes ++ rest ≡ front ++ (tail ++ rest) = ap (λ (t : List ℕ). t ++ rest)
      (sym (take-append-drop n bytes)) ∙ append_assoc front tail rest in
      let stays = stays-bad tail rest k.0 (valid-tail bytes) k.1 in
      let here = ap utf8_valid_len parts ∙ valid-append front (tail ++ rest) (valid-front bytes) in
      let there = ap utf8_valid_len (sym (take-append-drop n bytes)) ∙ valid-append front tail (valid-front bytes) in
      omega (arith, here, there, stays, valid-tail bytes)

  short : utf8_valid_len bytes < length bytes
  short = ⊎_elim (λ (l : utf8_valid_len bytes < length bytes). l)
      (λ (m : length bytes ≤ utf8_valid_len bytes). absurd (by_nil (after_valid bytes)
      (drop-all (utf8_valid_len bytes) bytes m) bad)) (order (utf8_valid_len bytes) (length bytes))
    where
      drop-all : (n : ℕ) (xs : List ℕ) → length xs ≤ n → drop n xs ≡ []
      drop-all zero [] h = refl
      drop-all zero (x ∷ xs) h = absurd (omega (arith, h))
      drop-all (suc n) [] h = refl
      drop-all (suc n) (x ∷ xs) h = let less : length xs ≤ n = omega (arith, h) in drop-all n xs less

      by_nil : (tail : List ℕ) → tail ≡ [] → is_none (utf8_error_len tail) ≡ false → ⊥
      by_nil tail e f = both_ways (is_none (utf8_error_len tail)) f
          (ap (λ (t : List ℕ). is_none (utf8_error_len t)) e ∙ ap is_none error-nil)

  not-whole : is_whole bytes ≡ false
  not-whole = ne_eqb _ _ (λ e. omega (arith, e, short))

  not-whole-more : is_whole (bytes ++ rest) ≡ false
  not-whole-more = ne_eqb _ _ (λ e. omega (arith, e, short, same-len, length-append bytes rest))

  same-chars : valid_chars (bytes ++ rest) ≡ valid_chars bytes
  unfolding valid_chars
  same-chars = ap (λ n. chars (take n (bytes ++ rest))) same-len
      ∙ ap chars (take-within (utf8_valid_len bytes) bytes rest (omega (arith, short)))

  pub stays-tokens : (p : Place) (comment : Bool) → tokens_from p comment (bytes ++ rest) ≡ tokens_from p comment bytes
  unfolding tokens_from
  stays-tokens p comment =
      ap (λ (cs : List ℕ). lex (is_whole (bytes ++ rest)) p (comment_len comment cs) cs) same-chars
      ∙ ap (λ b. lex b p (comment_len comment (valid_chars bytes)) (valid_chars bytes)) (not-whole-more ∙ sym not-whole)

-- the tokens of such bytes are those up to there, and then the fault
pub bad-tokens : (p : Place) (comment : Bool) (bytes : List ℕ) → is_cut bytes ≡ false
    → tokens_from p comment bytes ≡ lex false p (comment_len comment (valid_chars bytes)) (valid_chars bytes)
unfolding tokens_from
bad-tokens p comment bytes bad = ap (λ b. lex b p (comment_len comment (valid_chars bytes)) (valid_chars bytes))
    (not-whole bytes [] bad)
