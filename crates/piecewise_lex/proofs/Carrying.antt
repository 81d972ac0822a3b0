-- What is taken of characters stays as it is, whatever comes after those that wait.
use Rattle.std.proofs.Common.{◌≡◌, ℕ, zero, suc, ◌+◌, ◌≤◌, ◌<◌, Bool, true, false, cond, ◌&&◌, ◌||◌, List, [], ◌∷◌}
use Rattle.std.proofs.Common.{◌++◌, length, take, drop, Ok, Err, refl, sym, ap, subst, ◌∙◌, arith, inl, inr, ◌⊎◌}
use Rattle.std.proofs.Common.{eqb-true, append_assoc}
use Rattle.std.proofs.lemmas.List.{take_at, length-take-le}
use Rattle.std.specs.Prelude.{nat_le, not, ◌==◌, slice_index}
use Rattle.std.specs.Str.{encode_utf8_all}
use Rattle.std.specs.Char.{is_ascii_digit}
use Rattle.std.specs.List.{prefix_len}
use Rattle.std.proofs.lemmas.Bool.Decides.{nat_tests}
use Rattle.std.proofs.lemmas.Bool.{both_ways, false_from_ne_true}
use Rattle.std.proofs.Math.Bool.{and-false}
use Rattle.cyc_lex.specs.declared.token.Kind.TheVariants.{Name, Number, Symbol, End}
use Rattle.cyc_lex.specs.declared.place.Place.{Place}
use Rattle.cyc_lex.specs.declared.place.Run.TheVariants as runs
use Rattle.cyc_lex.specs.declared.place.Piece.{Piece}
use Rattle.cyc_lex.specs.declared.place.Piece.TheVariants as pieces
use Rattle.cyc_lex.specs.declared.place.Bad.{Bad}
use Rattle.cyc_lex.specs.declared.place.Bad.TheVariants as bads
use Rattle.cyc_lex.specs.Placed.{Placed}
use Rattle.cyc_lex.specs.Characters.{is_space, starts_name, goes_on, is_double, is_single}
use Rattle.cyc_lex.specs.Lexing.{pass, pass_all, piece_at, token_at, with_token, with_tokens, taken, lex}
use Rattle.piecewise_lex.specs.Feeding.{may_grow, is_held, taken_chars, held_chars, ends_in_comment, tokens_taken}
use Rattle.cyc_lex.specs.Lexing.{comment_len}
use Rattle.cyc_lex.proofs.Pieces.{comment_len-true, comment_len-false}
use Rattle.cyc_lex.proofs.Lexed.{Found}
use Rattle.cyc_lex.proofs.TokenLaws.{double-cases, chosen as any-choice, choose}

-- z may stand where these characters do: nothing, or what begins alike
abbrev pub Agrees : List ℕ → List ℕ → Type 0
Agrees [] z = Unit {0}
Agrees (h ∷ hs) z = (z ≡ []) ⊎ ((t : List ℕ) × (z ≡ h ∷ t))

-- ---- one piece

prefix-same : (p : ℕ → Bool) (cs y : List ℕ) → prefix_len p cs < length cs → Agrees (drop (prefix_len p cs) cs) y
    → prefix_len p (take (prefix_len p cs) cs ++ y) ≡ prefix_len p cs
prefix-same p [] y lt a = absurd (omega arith)
prefix-same p (c ∷ cs) y lt a = by_test (p c) refl (prefix-same p cs y) lt a
  where
    same-head : (b : Bool) → p c ≡ b → b ≡ false → Agrees (c ∷ cs) y → prefix_len p y ≡ 0
    same-head b is fails (inl none) = rw none refl
    same-head b is fails (inr some) = rw (some.1, is, fails) refl

    by_test : (b : Bool) → p c ≡ b → (prefix_len p cs < length cs → Agrees (drop (prefix_len p cs) cs) y
        → prefix_len p (take (prefix_len p cs) cs ++ y) ≡ prefix_len p cs)
        → cond b (1 + prefix_len p cs) 0 < length (c ∷ cs) → Agrees (drop (cond b (1 + prefix_len p cs) 0) (c ∷ cs)) y
        → prefix_len p (take (cond b (1 + prefix_len p cs) 0) (c ∷ cs) ++ y) ≡ cond b (1 + prefix_len p cs) 0
    by_test true is again lt a =
        let k : 1 + prefix_len p cs ≡ suc (prefix_len p cs) = omega arith in
        let less : prefix_len p cs < length cs = omega arith in
        let near : Agrees (drop (prefix_len p cs) cs) y = subst (λ n. Agrees (drop n (c ∷ cs)) y) k a in
        let more = again less near in
        ap (λ n. prefix_len p (take n (c ∷ cs) ++ y)) k ∙ rw (is, more) refl
    by_test false is again lt a = same-head false is refl a

-- each way to choose, with the tests that lead to it
chosen : (P : Piece × ℕ → Type 0) (s n d two one : Bool) (kc kn kd : ℕ)
    → (s ≡ true → P (pieces.Gap, 0))
    → (s ≡ false → n ≡ true → P (pieces.Token Name, kn))
    → (s ≡ false → n ≡ false → d ≡ true → P (pieces.Token Number, kd))
    → (s ≡ false → n ≡ false → d ≡ false → two ≡ true → P (pieces.Token Symbol, 1))
    → (s ≡ false → n ≡ false → d ≡ false → two ≡ false → one ≡ true → P (pieces.Token Symbol, 0))
    → (s ≡ false → n ≡ false → d ≡ false → two ≡ false → one ≡ false → P (pieces.Stray, 0))
    → P (choose s false n d two one kc kn kd)
chosen P true n d two one kc kn kd a b e f g i = a refl
chosen P false true d two one kc kn kd a b e f g i = b refl refl
chosen P false false true two one kc kn kd a b e f g i = e refl refl refl
chosen P false false false true one kc kn kd a b e f g i = f refl refl refl refl
chosen P false false false false true kc kn kd a b e f g i = g refl refl refl refl refl
chosen P false false false false false kc kn kd a b e f g i = i refl refl refl refl refl

double-zero : (c : ℕ) → is_double c 0 ≡ false
double-zero c = rw (and-false (c == 124), and-false (c == 45), and-false (c == 58), and-false (c == 33)) refl

-- a character that may not grow begins no symbol of two
double-none : (c d : ℕ) → is_single c ≡ false → ((c == 33) || (c == 45)) ≡ false → is_double c d ≡ false
double-none c d single other = false_from_ne_true (is_double c d)
    (λ h. double-cases (λ c d. is_single c ≡ false → ((c == 33) || (c == 45)) ≡ false → ⊥) (λ a b. cc) (λ a b. cc)
    (λ a b. cc) (λ a b. cc) c d h single other)

free-token : (n k : ℕ) → (nat_le n k && true) ≡ false → k < n
free-token n k h = grind (arith, nat_tests)

-- a piece that doesn't wait, and is no comment, is the same before anything that begins alike
pub piece-same : (c : ℕ) (cs y : List ℕ) → is_held c cs ≡ false → (c == 35) ≡ false
    → Agrees (drop (piece_at c cs).1 cs) y → piece_at c (take (piece_at c cs).1 cs ++ y) ≡ piece_at c cs
unfolding is_held
piece-same c cs y free plain agrees = by_choice free agrees
  where
    Same : Piece × ℕ → Type 0
    Same m = (nat_le (length cs) m.1 && may_grow m.0 c) ≡ false → Agrees (drop m.1 cs) y
        → piece_at c (take m.1 cs ++ y) ≡ m

    -- after no character of the piece: nothing, what begins alike, or anything
    singles : (cs : List ℕ) → Agrees cs y → (cs ≡ [] → (d : ℕ) → is_double c d ≡ false)
        → is_double c (slice_index cs 0) ≡ false → is_double c (slice_index y 0) ≡ false
    singles [] a none alike = none refl (slice_index y 0)
    singles (d ∷ ds) (inl e) none alike = rw e (double-zero c)
    singles (d ∷ ds) (inr e) none alike = rw e.1 alike

    doubles : (cs : List ℕ) → 1 < length cs → is_double c (slice_index (take 1 cs ++ y) 0)
        ≡ is_double c (slice_index cs 0)
    doubles [] h = absurd (omega arith)
    doubles (d ∷ ds) h = refl

    some : (cs : List ℕ) → 0 < length cs → cs ≡ [] → (d : ℕ) → is_double c d ≡ false
    some cs h e d = absurd (omega (arith, h, ap length e))

    stray : (cs : List ℕ) → (nat_le (length cs) 0 && ((c == 33) || (c == 45))) ≡ false → is_single c ≡ false → cs ≡ []
        → (d : ℕ) → is_double c d ≡ false
    stray [] free single e d = double-none c d single free
    stray (x ∷ xs) free single e d = absurd (omega (arith, ap length e))

    by_choice : Same (piece_at c cs)
    by_choice = subst (λ h. Same (choose (is_space c) h (starts_name c) (is_ascii_digit c)
        (is_double c (slice_index cs 0)) (is_single c) (prefix_len (goes_on runs.Comment) cs)
        (prefix_len (goes_on runs.Name) cs) (prefix_len (goes_on runs.Number) cs))) (sym plain)
        (chosen Same (is_space c) (starts_name c) (is_ascii_digit c) (is_double c (slice_index cs 0)) (is_single c)
        (prefix_len (goes_on runs.Comment) cs) (prefix_len (goes_on runs.Name) cs)
        (prefix_len (goes_on runs.Number) cs)
        (λ s free a. rw s refl)
        (λ s n free a. rw (s, plain, n) (ap (λ k. (pieces.Token Name, k))
        (prefix-same (goes_on runs.Name) cs y (free-token _ _ free) a)))
        (λ s n d free a. rw (s, plain, n, d) (ap (λ k. (pieces.Token Number, k))
        (prefix-same (goes_on runs.Number) cs y (free-token _ _ free) a)))
        (λ s n d two free a. rw (s, plain, n, d, doubles cs (free-token _ _ free), two) refl)
        (λ s n d two one free a. rw (s, plain, n, d, singles cs a (some cs (free-token _ _ free)) two, one) refl)
        (λ s n d two one free a. rw (s, plain, n, d, singles cs a (stray cs free one) two, one) refl))

-- ---- the parts of characters, a piece further on

module _ (c : ℕ) (cs : List ℕ) where
  pub taken-held : is_held c cs ≡ true → taken_chars 0 (c ∷ cs) ≡ []
  unfolding taken_chars
  taken-held h = rw h refl

  pub taken-free : is_held c cs ≡ false → taken_chars 0 (c ∷ cs) ≡ c ∷ taken_chars (piece_at c cs).1 cs
  unfolding taken_chars
  taken-free h = rw h refl

  pub held-held : is_held c cs ≡ true → held_chars 0 (c ∷ cs) ≡ c ∷ cs
  unfolding held_chars
  held-held h = rw h refl

  pub held-free : is_held c cs ≡ false → held_chars 0 (c ∷ cs) ≡ held_chars (piece_at c cs).1 cs
  unfolding held_chars
  held-free h = rw h refl

  pub comment-held : (b : Bool) → is_held c cs ≡ true → ends_in_comment b 0 (c ∷ cs) ≡ false
  unfolding ends_in_comment
  comment-held b h = rw h refl

  pub comment-free : (b : Bool) → is_held c cs ≡ false
      → ends_in_comment b 0 (c ∷ cs) ≡ ends_in_comment (c == 35) (piece_at c cs).1 cs
  unfolding ends_in_comment
  comment-free b h = rw h refl

  pub tokens-held : (p : Place) → is_held c cs ≡ true → tokens_taken p 0 (c ∷ cs) ≡ Ok []
  unfolding tokens_taken
  tokens-held p h = rw h refl

  pub tokens-free : (p : Place) → is_held c cs ≡ false
      → tokens_taken p 0 (c ∷ cs) ≡ taken (piece_at c cs).0 p (encode_utf8_all (c ∷ take (piece_at c cs).1 cs))
      (tokens_taken (pass p c) (piece_at c cs).1 cs)
  unfolding tokens_taken
  tokens-free p h = rw h refl

pub taken-skip : (k : ℕ) (cs : List ℕ) → taken_chars k cs ≡ take k cs ++ taken_chars 0 (drop k cs)
unfolding taken_chars
taken-skip zero cs = refl
taken-skip (suc k) [] = refl
taken-skip (suc k) (c ∷ cs) = ap (λ x. c ∷ x) (taken-skip k cs)

pub held-skip : (k : ℕ) (cs : List ℕ) → held_chars k cs ≡ held_chars 0 (drop k cs)
unfolding held_chars
held-skip zero cs = refl
held-skip (suc k) [] = refl
held-skip (suc k) (c ∷ cs) = held-skip k cs

pub comment-skip : (b : Bool) (k : ℕ) (cs : List ℕ) → ends_in_comment b k cs ≡ ends_in_comment b 0 (drop k cs)
unfolding ends_in_comment
comment-skip b zero cs = refl
comment-skip b (suc k) [] = refl
comment-skip b (suc k) (c ∷ cs) = comment-skip b k cs

pub tokens-skip : (p : Place) (k : ℕ) (cs : List ℕ)
    → tokens_taken p k cs ≡ tokens_taken (pass_all p (take k cs)) 0 (drop k cs)
unfolding tokens_taken pass_all
tokens-skip p zero cs = refl
tokens-skip p (suc k) [] = refl
tokens-skip p (suc k) (c ∷ cs) = tokens-skip (pass p c) k cs

-- ---- tokens, and then others

abbrev pub then_tokens : Found → Found → Found
then_tokens (Ok ts) r = with_tokens ts r
then_tokens (Err e) r = Err e

with_token-then : (t : Placed) (a r : Found) → with_token t (then_tokens a r) ≡ then_tokens (with_token t a) r
with_token-then t (Ok ts) r = refl
with_token-then t (Err e) r = refl

cond-then : (b : Bool) (e : Bad × Place) (t : Placed) (a r : Found)
    → cond b (Err e) (with_token t (then_tokens a r)) ≡ then_tokens (cond b (Err e) (with_token t a)) r
cond-then true e t a r = refl
cond-then false e t a r = with_token-then t a r

taken-then : (piece : Piece) (p : Place) (bytes : List ℕ) (a r : Found)
    → taken piece p bytes (then_tokens a r) ≡ then_tokens (taken piece p bytes a) r
taken-then pieces.Gap p bytes a r = refl
taken-then pieces.Stray p bytes a r = refl
taken-then (pieces.Token Name) p bytes a r = cond-then _ (bads.LongName, p) (token_at Name p bytes) a r
taken-then (pieces.Token Number) p bytes a r = cond-then _ (bads.LongNumber, p) (token_at Number p bytes) a r
taken-then (pieces.Token Symbol) p bytes a r = with_token-then (token_at Symbol p bytes) a r
taken-then (pieces.Token End) p bytes a r = with_token-then (token_at End p bytes) a r

-- ---- the law over characters

abbrev comment : List ℕ → ℕ
comment = prefix_len (goes_on runs.Comment)

-- the first k of the characters, and the first j of those that are taken with z after them, belong to what was taken
abbrev pub IsSkip : Bool → ℕ → ℕ → List ℕ → List ℕ → Type 0
IsSkip true k j cs z = (k ≡ comment cs) × (j ≡ comment (taken_chars k cs ++ z))
IsSkip false k j cs z = (k ≤ length cs) × (j ≡ k)

pass_all-cons : (p : Place) (c : ℕ) (cs : List ℕ) → pass_all p (c ∷ cs) ≡ pass_all (pass p c) cs
unfolding pass_all
pass_all-cons p c cs = refl

pass_all-nil : (p : Place) → pass_all p [] ≡ p
unfolding pass_all
pass_all-nil p = refl

lex-piece : (whole : Bool) (p : Place) (c : ℕ) (cs : List ℕ)
    → lex whole p 0 (c ∷ cs) ≡ taken (piece_at c cs).0 p (encode_utf8_all (c ∷ take (piece_at c cs).1 cs))
    (lex whole (pass p c) (piece_at c cs).1 cs)
unfolding lex
lex-piece whole p c cs = refl

lex-skip : (whole : Bool) (p : Place) (c k : ℕ) (cs : List ℕ) → lex whole p (suc k) (c ∷ cs) ≡ lex whole (pass p c) k cs
unfolding lex
lex-skip whole p c k cs = refl

-- what the law says
unfoldable pub Carries : Bool → Place → Bool → ℕ → ℕ → List ℕ → List ℕ → Type 0
Carries whole p b k j cs z = lex whole p j (taken_chars k cs ++ z)
    ≡ then_tokens (tokens_taken p k cs) (lex whole (pass_all p (taken_chars k cs))
    (comment_len (ends_in_comment b k cs) z) z)

carries-nil : (whole : Bool) (p : Place) (b : Bool) (k j : ℕ) (z : List ℕ) → IsSkip b k j [] z
    → Carries whole p b k j [] z
unfolding Carries taken_chars tokens_taken ends_in_comment pass_all
carries-nil whole p true k j z h = ap (λ n. lex whole p n z) (h.1 ∙ sym (comment_len-true z))
carries-nil whole p false k j z h =
    let none : j ≡ 0 = omega (arith, h.1, h.0) in
    ap (λ n. lex whole p n z) (none ∙ sym (comment_len-false z))

skip-true : (g : Bool) (n m k j : ℕ) → suc k ≡ cond g (1 + n) 0 → j ≡ cond g (1 + m) 0 → (k ≡ n) × (j ≡ suc m)
skip-true true n m k j e f = (omega (arith, e), omega (arith, f))
skip-true false n m k j e f = absurd (omega (arith, e))

skip-one : (b : Bool) (k j c : ℕ) (cs z : List ℕ) → IsSkip b (suc k) j (c ∷ cs) z
    → (i : ℕ) × (j ≡ suc i) × IsSkip b k i cs z
unfolding taken_chars
skip-one true k j c cs z h =
    let p = skip-true (goes_on runs.Comment c) (comment cs) (comment (taken_chars k cs ++ z)) k j h.0 h.1 in
    (comment (taken_chars k cs ++ z), p.1, (p.0, refl))
skip-one false k j c cs z h = (k, h.1, (omega (arith, h.0), refl))

ten : (c : ℕ) → goes_on runs.Comment c ≡ false → c ≡ 10
ten c h = eqb-true c 10 (by_test (c == 10) h)
  where
    by_test : (b : Bool) → not b ≡ false → b ≡ true
    by_test true e = refl
    by_test false e = absurd cc

line-feed-free : (c : ℕ) (cs : List ℕ) → goes_on runs.Comment c ≡ false → is_held c cs ≡ false
unfolding is_held
line-feed-free c cs h = rw (ten c h) (and-false (nat_le (length cs) 0))

no-skip : (b : Bool) (j c : ℕ) (cs z : List ℕ) → IsSkip b 0 j (c ∷ cs) z → j ≡ 0
no-skip false j c cs z h = h.1
no-skip true j c cs z h =
    let stops : goes_on runs.Comment c ≡ false = by_test (goes_on runs.Comment c) (comment cs) h.0 in
    h.1 ∙ rw (taken-free c cs (line-feed-free c cs stops), stops) refl
  where
    by_test : (g : Bool) (n : ℕ) → 0 ≡ cond g (1 + n) 0 → g ≡ false
    by_test true n e = absurd (omega (arith, e))
    by_test false n e = refl

agrees-rest : (ds z : List ℕ) → Agrees (held_chars 0 ds) z → Agrees ds (taken_chars 0 ds ++ z)
agrees-rest [] z h = tt
agrees-rest (d ∷ ds) z h = by_test (is_held d ds) refl h
  where
    by_test : (b : Bool) → is_held d ds ≡ b → Agrees (held_chars 0 (d ∷ ds)) z
        → Agrees (d ∷ ds) (taken_chars 0 (d ∷ ds) ++ z)
    by_test true e h = rw (taken-held d ds e) (subst (λ x. Agrees x z) (held-held d ds e) h)
    by_test false e h = rw (taken-free d ds e) (inr (taken_chars (piece_at d ds).1 ds ++ z, refl))

prefix-le : (p : ℕ → Bool) (cs : List ℕ) → prefix_len p cs ≤ length cs
prefix-le p [] = omega arith
prefix-le p (c ∷ cs) = by_test (p c) (prefix-le p cs)
  where
    by_test : (b : Bool) → prefix_len p cs ≤ length cs → cond b (1 + prefix_len p cs) 0 ≤ length (c ∷ cs)
    by_test true h = omega (arith, h)
    by_test false h = omega arith

pub piece-le : (c : ℕ) (cs : List ℕ) → (piece_at c cs).1 ≤ length cs
piece-le c cs = any-choice (λ m. m.1 ≤ length cs) (is_space c) (c == 35) (starts_name c) (is_ascii_digit c)
    (is_double c (slice_index cs 0)) (is_single c) (prefix_len (goes_on runs.Comment) cs)
    (prefix_len (goes_on runs.Name) cs) (prefix_len (goes_on runs.Number) cs)
    (omega arith) (prefix-le (goes_on runs.Comment) cs) (λ n. prefix-le (goes_on runs.Name) cs)
    (λ d. prefix-le (goes_on runs.Number) cs) (λ two. by_list cs two) (λ one. omega arith) (omega arith)
  where
    by_list : (cs : List ℕ) → is_double c (slice_index cs 0) ≡ true → 1 ≤ length cs
    by_list [] h = absurd (both_ways (is_double c 0) (double-zero c) h)
    by_list (d ∷ ds) h = omega arith

-- a comment goes up to the line feed
comment-piece : (c : ℕ) → (c == 35) ≡ true → (cs : List ℕ) → piece_at c cs ≡ (pieces.Gap, comment cs)
comment-piece c h cs = rw (eqb-true c 35 h) refl

-- the law after the piece that begins with c
Behind : Bool → Place → ℕ → List ℕ → List ℕ → Type 0
Behind whole p c cs z = (b : Bool) (i : ℕ) → IsSkip b (piece_at c cs).1 i cs z
    → Carries whole (pass p c) b (piece_at c cs).1 i cs z

carry-plain : (whole : Bool) (p : Place) (b : Bool) (j c : ℕ) (cs z : List ℕ) → is_held c cs ≡ false → (c == 35) ≡ false
    → Agrees (held_chars (piece_at c cs).1 cs) z → j ≡ 0 → Behind whole p c cs z → Carries whole p b 0 j (c ∷ cs) z
unfolding Carries Behind
carry-plain whole p b j c cs z free plain agrees none again =
    let n = (piece_at c cs).1 in
    let y = taken_chars 0 (drop n cs) ++ z in
    let x = taken_chars n cs ++ z in
    let parts : x ≡ take n cs ++ y = ap (λ (t : List ℕ). t ++ z) (taken-skip n cs)
    ∙ append_assoc (take n cs) (taken_chars 0 (drop n cs)) z in
    let near : Agrees (drop n cs) y = agrees-rest (drop n cs) z
    (subst (λ (t : List ℕ). Agrees t z) (held-skip n cs) agrees) in
    let same : piece_at c x ≡ piece_at c cs = ap (piece_at c) parts ∙ piece-same c cs y free plain near in
    let front : take n x ≡ take n cs = ap (take n) parts ∙ take_at (take n cs) y n (length-take-le n cs (piece-le c cs))
    in
    let rest = again false n (piece-le c cs, refl) in
    let bytes = encode_utf8_all (c ∷ take n cs) in
    let last = lex whole (pass_all (pass p c) (taken_chars n cs)) (comment_len (ends_in_comment false n cs) z) z in
    let left : lex whole p j (taken_chars 0 (c ∷ cs) ++ z)
    ≡ then_tokens (taken (piece_at c cs).0 p bytes (tokens_taken (pass p c) n cs)) last =
    ap (λ (t : List ℕ). lex whole p j (t ++ z)) (taken-free c cs free)
    ∙ ap (λ k. lex whole p k (c ∷ x)) none
    ∙ lex-piece whole p c x
    ∙ ap (λ (m : Piece × ℕ). taken m.0 p (encode_utf8_all (c ∷ take m.1 x)) (lex whole (pass p c) m.1 x)) same
    ∙ ap (λ (t : List ℕ). taken (piece_at c cs).0 p (encode_utf8_all (c ∷ t)) (lex whole (pass p c) n x)) front
    ∙ ap (taken (piece_at c cs).0 p bytes) rest
    ∙ taken-then (piece_at c cs).0 p bytes (tokens_taken (pass p c) n cs) last in
    let place : pass_all p (taken_chars 0 (c ∷ cs))
    ≡ pass_all (pass p c) (taken_chars n cs) = ap (pass_all p) (taken-free c cs free)
    ∙ pass_all-cons p c (taken_chars n cs) in
    let goes : ends_in_comment b 0 (c ∷ cs) ≡ ends_in_comment false n cs = comment-free c cs b free
    ∙ ap (λ h. ends_in_comment h n cs) plain in
    let right : then_tokens (tokens_taken p 0 (c ∷ cs))
    (lex whole (pass_all p (taken_chars 0 (c ∷ cs))) (comment_len (ends_in_comment b 0 (c ∷ cs)) z) z)
    ≡ then_tokens (taken (piece_at c cs).0 p bytes (tokens_taken (pass p c) n cs)) last =
    λ i. then_tokens (tokens-free c cs p free i) (lex whole (place i) (comment_len (goes i) z) z) in
    left ∙ sym right

carry-comment : (whole : Bool) (p : Place) (b : Bool) (j c : ℕ) (cs z : List ℕ) → is_held c cs ≡ false
    → (c == 35) ≡ true → j ≡ 0 → Behind whole p c cs z → Carries whole p b 0 j (c ∷ cs) z
unfolding Carries Behind
carry-comment whole p b j c cs z free plain none again =
    let n = (piece_at c cs).1 in
    let x = taken_chars n cs ++ z in
    let here = comment-piece c plain cs in
    let there = comment-piece c plain x in
    let rest = again true (comment x) (ap (λ (m : Piece × ℕ). m.1) here, refl) in
    let last = lex whole (pass_all (pass p c) (taken_chars n cs)) (comment_len (ends_in_comment true n cs) z) z in
    let left : lex whole p j (taken_chars 0 (c ∷ cs) ++ z) ≡ then_tokens (tokens_taken (pass p c) n cs) last =
    ap (λ (t : List ℕ). lex whole p j (t ++ z)) (taken-free c cs free)
    ∙ ap (λ k. lex whole p k (c ∷ x)) none
    ∙ lex-piece whole p c x
    ∙ ap (λ (m : Piece × ℕ). taken m.0 p (encode_utf8_all (c ∷ take m.1 x)) (lex whole (pass p c) m.1 x)) there
    ∙ rest in
    let place : pass_all p (taken_chars 0 (c ∷ cs))
    ≡ pass_all (pass p c) (taken_chars n cs) = ap (pass_all p) (taken-free c cs free)
    ∙ pass_all-cons p c (taken_chars n cs) in
    let goes : ends_in_comment b 0 (c ∷ cs) ≡ ends_in_comment true n cs = comment-free c cs b free
    ∙ ap (λ h. ends_in_comment h n cs) plain in
    let tokens : tokens_taken p 0 (c ∷ cs) ≡ tokens_taken (pass p c) n cs = tokens-free c cs p free
    ∙ ap (λ (m : Piece × ℕ). taken m.0 p (encode_utf8_all (c ∷ take n cs)) (tokens_taken (pass p c) n cs)) here in
    let right : then_tokens (tokens_taken p 0 (c ∷ cs))
    (lex whole (pass_all p (taken_chars 0 (c ∷ cs))) (comment_len (ends_in_comment b 0 (c ∷ cs)) z) z)
    ≡ then_tokens (tokens_taken (pass p c) n cs) last =
    λ i. then_tokens (tokens i) (lex whole (place i) (comment_len (goes i) z) z) in
    left ∙ sym right

carry-held : (whole : Bool) (p : Place) (b : Bool) (j c : ℕ) (cs z : List ℕ) → is_held c cs ≡ true → j ≡ 0
    → Carries whole p b 0 j (c ∷ cs) z
unfolding Carries
carry-held whole p b j c cs z held none = rw (
  taken-held c cs held,
  tokens-held c cs p held,
  comment-held c cs b held,
  pass_all-nil p,
  comment_len-false z,
  none,
) refl

carry-more : (whole : Bool) (p : Place) (b : Bool) (k j c : ℕ) (cs z : List ℕ) (i : ℕ) → j ≡ suc i
    → Carries whole (pass p c) b k i cs z → Carries whole p b (suc k) j (c ∷ cs) z
unfolding Carries taken_chars tokens_taken ends_in_comment pass_all
carry-more whole p b k j c cs z i e h = ap (λ n. lex whole p n (c ∷ (taken_chars k cs ++ z))) e
    ∙ lex-skip whole p c i (taken_chars k cs ++ z) ∙ h

carry-piece : (whole : Bool) (p : Place) (b : Bool) (j c : ℕ) (cs z : List ℕ) → Agrees (held_chars 0 (c ∷ cs)) z
    → IsSkip b 0 j (c ∷ cs) z → (is_held c cs ≡ false → Agrees (held_chars (piece_at c cs).1 cs) z
    → Behind whole p c cs z) → Carries whole p b 0 j (c ∷ cs) z
carry-piece whole p b j c cs z agrees skip again = by_test (is_held c cs) refl (c == 35) refl
  where
    by_test : (h : Bool) → is_held c cs ≡ h → (s : Bool) → (c == 35) ≡ s → Carries whole p b 0 j (c ∷ cs) z
    by_test true held s is = carry-held whole p b j c cs z held (no-skip b j c cs z skip)
    by_test false free true is = carry-comment whole p b j c cs z free is (no-skip b j c cs z skip)
        (again free (subst (λ (t : List ℕ). Agrees t z) (held-free c cs free) agrees))
    by_test false free false is = let near = subst (λ (t : List ℕ). Agrees t z) (held-free c cs free) agrees in
        carry-plain whole p b j c cs z free is near (no-skip b j c cs z skip) (again free near)

pub carry : (whole : Bool) (p : Place) (b : Bool) (k j : ℕ) (cs z : List ℕ) → Agrees (held_chars k cs) z
    → IsSkip b k j cs z → Carries whole p b k j cs z
unfolding Behind held_chars
carry whole p b k j [] z agrees skip = carries-nil whole p b k j z skip
carry whole p b (suc k) j (c ∷ cs) z agrees skip =
    let s = skip-one b k j c cs z skip in
    carry-more whole p b k j c cs z s.0 s.1 (carry whole (pass p c) b k s.0 cs z agrees s.2)
carry whole p b zero j (c ∷ cs) z agrees skip =
    carry-piece whole p b j c cs z agrees skip (λ free near b i s.
    carry whole (pass p c) b (piece_at c cs).1 i cs z near s)
