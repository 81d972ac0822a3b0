-- Masks as words, and as the number that the words spell.
use Rattle.std.specs.Prelude.{◌↔◌, IsTrue, slice_index, drop, replicate, max, Bool, false, nat_eq, ◌&&◌, ◌||◌}
use Rattle.std.proofs.Common.{◌≡◌, ℕ, zero, suc, ◌+◌, ◌-◌, ◌*◌, ◌/◌, ◌%◌, ◌^◌, ◌<◌, ◌≤◌, List, [], ◌∷◌, ◌++◌, length}
use Rattle.std.proofs.Common.{append_assoc, refl, sym, ap, ◌∙◌, subst, inl, inr, ◌⊎◌, arith}
use Rattle.std.proofs.lemmas.Bool.{cases_lt}
use Rattle.std.specs.Int.Bits.{bit_and, bit_or}
use Rattle.std.specs.Cmp.Lexicographic.{pointwise}
use Rattle.std.proofs.lemmas.Nat.{or_lt, pow_pos, pow_below, le_or_l, le_or_r, pow-add}
use Rattle.std.proofs.lemmas.Nat.Bits.{bit_at_cat_low, bit_at_cat_high}
use Rattle.model_check.specs.Questions.{lists_decide}
use Rattle.model_check.specs.WideMasks.{number, IsNormal, AreApart, or_words}
use Rattle.cyc_basics.specs.Bits.{is_one}
use Rattle.model_check.proofs.MaskParts.{same_masks}
use Rattle.cyc_basics.proofs.Bits.{one_and, one_or, one_zero}

-- ---- a word before the others

low_bit : (n w i : ℕ) → i < 64 → is_one (n * 2 ^ 64 + w) i ≡ is_one w i
low_bit n w i l = ap (λ x. nat_eq x 1) (bit_at_cat_low n 64 w i l)

high_bit : (n w i : ℕ) → w < 2 ^ 64 → 64 ≤ i → is_one (n * 2 ^ 64 + w) i ≡ is_one n (i - 64)
high_bit n w i h l = ap (λ x. nat_eq x 1) (bit_at_cat_high n 64 w i h l)

or_cat : (n w m v : ℕ) → w < 2 ^ 64 → v < 2 ^ 64 → bit_or (n * 2 ^ 64 + w) (m * 2 ^ 64 + v)
    ≡ bit_or n m * 2 ^ 64 + bit_or w v
or_cat n w m v h k = same_masks _ _ bits
  where
    bits : (i : ℕ) → is_one (bit_or (n * 2 ^ 64 + w) (m * 2 ^ 64 + v)) i ≡ is_one (bit_or n m * 2 ^ 64 + bit_or w v) i
    bits i = elim (cases_lt i 64) [
      | inl l ↦ one_or (n * 2 ^ 64 + w) (m * 2 ^ 64 + v) i ∙ ap (λ b. b || is_one (m * 2 ^ 64 + v) i) (low_bit n w i l)
          ∙ ap (λ b. is_one w i || b) (low_bit m v i l) ∙ sym (one_or w v i)
          ∙ sym (low_bit (bit_or n m) (bit_or w v) i l)
      | inr g ↦
          one_or (n * 2 ^ 64 + w) (m * 2 ^ 64 + v) i ∙ ap (λ b. b || is_one (m * 2 ^ 64 + v) i) (high_bit n w i h g)
          ∙ ap (λ b. is_one n (i - 64) || b) (high_bit m v i k g) ∙ sym (one_or n m (i - 64))
          ∙ sym (high_bit (bit_or n m) (bit_or w v) i (or_lt 64 w v h k) g)
    ]

-- no bit in common, word by word
and_cat_zero : (n w m v : ℕ) → w < 2 ^ 64 → v < 2 ^ 64 → bit_and w v ≡ 0 → bit_and n m ≡ 0
    → bit_and (n * 2 ^ 64 + w) (m * 2 ^ 64 + v) ≡ 0
and_cat_zero n w m v h k low high = same_masks _ _ bits
  where
    bits : (i : ℕ) → is_one (bit_and (n * 2 ^ 64 + w) (m * 2 ^ 64 + v)) i ≡ is_one 0 i
    bits i = elim (cases_lt i 64) [
      | inl l ↦ one_and (n * 2 ^ 64 + w) (m * 2 ^ 64 + v) i ∙ ap (λ b. b && is_one (m * 2 ^ 64 + v) i) (low_bit n w i l)
          ∙ ap (λ b. is_one w i && b) (low_bit m v i l) ∙ sym (one_and w v i) ∙ ap (λ x. is_one x i) low
      | inr g ↦
          one_and (n * 2 ^ 64 + w) (m * 2 ^ 64 + v) i ∙ ap (λ b. b && is_one (m * 2 ^ 64 + v) i) (high_bit n w i h g)
          ∙ ap (λ b. is_one n (i - 64) && b) (high_bit m v i k g) ∙ sym (one_and n m (i - 64))
          ∙ ap (λ x. is_one x (i - 64)) high ∙ one_zero (i - 64) ∙ sym (one_zero i)
    ]

low_zero : (n w m v : ℕ) → w < 2 ^ 64 → v < 2 ^ 64 → bit_and (n * 2 ^ 64 + w) (m * 2 ^ 64 + v) ≡ 0 → bit_and w v ≡ 0
low_zero n w m v h k z = same_masks _ _ bits
  where
    none : (x y : ℕ) (i : ℕ) → x < 2 ^ 64 → 64 ≤ i → (is_one x i && is_one y i) ≡ false
    none x y i l g = ap (λ b. b && is_one y i) (no_bit x i l g)
      where
        no_bit : (x i : ℕ) → x < 2 ^ 64 → 64 ≤ i → is_one x i ≡ false
        no_bit x i l g = ap (λ b. is_one b i) (let e : x ≡ 0 * 2 ^ 64 + x = omega arith in e) ∙ high_bit 0 x i l g
            ∙ one_zero (i - 64)

    bits : (i : ℕ) → is_one (bit_and w v) i ≡ is_one 0 i
    bits i = elim (cases_lt i 64) [
      | inl l ↦ one_and w v i ∙ ap (λ b. b && is_one v i) (sym (low_bit n w i l))
          ∙ ap (λ b. is_one (n * 2 ^ 64 + w) i && b) (sym (low_bit m v i l))
          ∙ sym (one_and (n * 2 ^ 64 + w) (m * 2 ^ 64 + v) i) ∙ ap (λ x. is_one x i) z
      | inr g ↦ one_and w v i ∙ none w v i h g ∙ sym (one_zero i)
    ]

high_zero : (n w m v : ℕ) → w < 2 ^ 64 → v < 2 ^ 64 → bit_and (n * 2 ^ 64 + w) (m * 2 ^ 64 + v) ≡ 0 → bit_and n m ≡ 0
high_zero n w m v h k z = same_masks _ _ bits
  where
    bits : (i : ℕ) → is_one (bit_and n m) i ≡ is_one 0 i
    bits i =
        let j : ℕ = i + 64 in
        let g : 64 ≤ j = omega arith in
        let e : j - 64 ≡ i = omega arith in
        let a : is_one (n * 2 ^ 64 + w) j ≡ is_one n i = high_bit n w j h g ∙ ap (is_one n) e in
        let b : is_one (m * 2 ^ 64 + v) j ≡ is_one m i = high_bit m v j k g ∙ ap (is_one m) e in
        one_and n m i ∙ ap (λ x. x && is_one m i) (sym a) ∙ ap (λ x. is_one (n * 2 ^ 64 + w) j && x) (sym b)
        ∙ sym (one_and (n * 2 ^ 64 + w) (m * 2 ^ 64 + v) j) ∙ ap (λ x. is_one x j) z ∙ one_zero j ∙ sym (one_zero i)

-- ---- words

split_number : (ws : List ℕ) → number ws ≡ number (drop 1 ws) * 2 ^ 64 + slice_index ws 0
split_number [] = refl
split_number (w ∷ ws) = refl

first_small : (ws : List ℕ) → IsNormal ws → slice_index ws 0 < 2 ^ 64
first_small [] n = omega arith
first_small (w ∷ ws) n = n.0

rest_normal : (ws : List ℕ) → IsNormal ws → IsNormal (drop 1 ws)
rest_normal [] n = tt
rest_normal (w ∷ ws) n = n.2

rest_length : (ws : List ℕ) (k : ℕ) → length ws ≤ suc k → length (drop 1 ws) ≤ k
rest_length [] k h = omega arith
rest_length (w ∷ ws) k h = omega arith

rest_long : (ws : List ℕ) (k : ℕ) → suc k ≤ length ws → k ≤ length (drop 1 ws)
rest_long [] k h = absurd (omega arith)
rest_long (w ∷ ws) k h = omega arith

some_number : (ws : List ℕ) (k : ℕ) → IsNormal ws → suc k ≤ length ws → 0 < number ws
some_number [] k n h = absurd (omega arith)
some_number (w ∷ ws) k n h = n.1

no_words : (ws : List ℕ) → length ws ≤ 0 → ws ≡ []
no_words [] h = refl
no_words (w ∷ ws) h = absurd (omega arith)

pub number_or : (k : ℕ) (xs ys : List ℕ) → IsNormal xs → IsNormal ys → length xs ≤ k → length ys ≤ k
    → number (or_words k xs ys) ≡ bit_or (number xs) (number ys)
number_or zero xs ys n m h l = sym (ap (λ zs. bit_or (number zs) (number ys)) (no_words xs h)
    ∙ ap (λ zs. bit_or 0 (number zs)) (no_words ys l))
number_or (suc k) xs ys n m h l =
    let r = number_or k (drop 1 xs) (drop 1 ys) (rest_normal xs n) (rest_normal ys m) (rest_length xs k h)
    (rest_length ys k l) in
    ap (λ a. a * 2 ^ 64 + bit_or (slice_index xs 0) (slice_index ys 0)) r
    ∙ sym (or_cat (number (drop 1 xs)) (slice_index xs 0) (number (drop 1 ys)) (slice_index ys 0) (first_small xs n)
    (first_small ys m)) ∙ sym (ap (λ a. bit_or a (number (drop 1 ys) * 2 ^ 64 + slice_index ys 0))
    (split_number xs)) ∙ sym (ap (bit_or (number xs)) (split_number ys))

pub normal_or : (k : ℕ) (xs ys : List ℕ) → IsNormal xs → IsNormal ys → length xs ≤ k → length ys ≤ k
    → (k ≤ length xs) ⊎ (k ≤ length ys) → IsNormal (or_words k xs ys)
normal_or zero xs ys n m h l o = tt
normal_or (suc k) xs ys n m h l o = (
  or_lt 64 (slice_index xs 0) (slice_index ys 0) (first_small xs n) (first_small ys m),
  subst (λ a. 0 < a) (sym (number_or (suc k) xs ys n m h l)) (elim o as (λ z. 0 < bit_or (number xs) (number ys)) [
    | inl g ↦ let a = some_number xs k n g in let b = le_or_l (number xs) (number ys) in omega arith
    | inr g ↦ let a = some_number ys k m g in let b = le_or_r (number xs) (number ys) in omega arith
  ]),
  normal_or k (drop 1 xs) (drop 1 ys) (rest_normal xs n) (rest_normal ys m) (rest_length xs k h) (rest_length ys k l)
      (elim o as (λ z. (k ≤ length (drop 1 xs)) ⊎ (k ≤ length (drop 1 ys)))
      [ inl g ↦ inl (rest_long xs k g) | inr g ↦ inr (rest_long ys k g) ]),
)

pub apart_number : (xs ys : List ℕ) → IsNormal xs → IsNormal ys → AreApart xs ys ↔ (bit_and (number xs) (number ys) ≡ 0)
apart_number [] ys n m = (λ a. zero_and (number ys), λ z. tt)
  where
    zero_and : (b : ℕ) → bit_and 0 b ≡ 0
    zero_and b = same_masks _ _ (λ i. one_and 0 b i ∙ ap (λ x. x && is_one b i) (one_zero i) ∙ sym (one_zero i))
apart_number (x ∷ xs) ys n m =
    let r = apart_number xs (drop 1 ys) n.2 (rest_normal ys m) in
    let s = split_number ys in
    let v = first_small ys m in (
      λ a. ap (bit_and (number (x ∷ xs))) s ∙ and_cat_zero (number xs) x (number (drop 1 ys)) (slice_index ys 0)
          n.0 v a.0 (r.0 a.1),
      λ z. let z' : bit_and (number xs * 2 ^ 64 + x) (number (drop 1 ys) * 2 ^ 64 + slice_index ys 0)
          ≡ 0 = sym (ap (bit_and (number (x ∷ xs))) s) ∙ z in (
            low_zero (number xs) x (number (drop 1 ys)) (slice_index ys 0) n.0 v z',
            r.1 (high_zero (number xs) x (number (drop 1 ys)) (slice_index ys 0) n.0 v z'),
          ),
    )

-- normal words that spell one number are the same
number_same : (xs ys : List ℕ) → IsNormal xs → IsNormal ys → number xs ≡ number ys → xs ≡ ys
number_same [] [] n m e = refl
number_same [] (y ∷ ys) n m e = absurd (let p : 0 < number (y ∷ ys) = m.1 in let z : 0 ≡ number (y ∷ ys) = e in
    omega arith)
number_same (x ∷ xs) [] n m e = absurd (let p : 0 < number (x ∷ xs) = n.1 in let z : number (x ∷ xs) ≡ 0 = e in
    omega arith)
number_same (x ∷ xs) (y ∷ ys) n m e =
    let p : x < 2 ^ 64 = n.0 in
    let q : y < 2 ^ 64 = m.0 in
    let z : number xs * 2 ^ 64 + x ≡ number ys * 2 ^ 64 + y = e in
    let here : x ≡ y = omega arith in
    let rest : number xs ≡ number ys = omega arith in
    let t = number_same xs ys n.2 m.2 rest in λ i. here i ∷ t i

pub same_words : (xs ys : List ℕ) (b : Bool) → IsNormal xs → IsNormal ys → b ≡ pointwise nat_eq xs ys → IsTrue b
    ↔ (number xs ≡ number ys)
same_words xs ys b n m e = (
  λ t. ap number ((lists_decide xs ys).0 (sym e ∙ t)),
  λ z. e ∙ (lists_decide xs ys).1 (number_same xs ys n m z),
)

-- ---- one bit

number_one : (k j : ℕ) → number (replicate k 0 ++ 2 ^ j ∷ []) ≡ 2 ^ (j + 64 * k)
number_one zero j = let e : j + 64 * 0 ≡ j = omega arith in
    (let z : 0 * 2 ^ 64 + 2 ^ j ≡ 2 ^ j = omega arith in z) ∙ sym (ap (λ n. 2 ^ n) e)
number_one (suc k) j =
    let r = number_one k j in
    let e : j + 64 * k + 64 ≡ j + 64 * suc k = omega arith in
    let z : number (replicate k 0 ++ 2 ^ j ∷ []) * 2 ^ 64 + 0
    ≡ number (replicate k 0 ++ 2 ^ j ∷ []) * 2 ^ 64 = omega arith in
    z ∙ ap (λ n. n * 2 ^ 64) r ∙ sym (pow-add 2 (j + 64 * k) 64) ∙ ap (λ n. 2 ^ n) e

pub number_bit : (p : ℕ) → number (replicate (p / 64) 0 ++ 2 ^ (p % 64) ∷ []) ≡ 2 ^ p
number_bit p = number_one (p / 64) (p % 64) ∙ ap (λ n. 2 ^ n) (let e : p % 64 + 64 * (p / 64) ≡ p = omega arith in e)

normal_one : (k j : ℕ) → j < 64 → IsNormal (replicate k 0 ++ 2 ^ j ∷ [])
normal_one zero j h = (pow_below j 64 h, (let p : 0 < 2 ^ j = pow_pos j in omega arith), tt)
normal_one (suc k) j h = (
  (let z : 0 < 2 ^ 64 = omega arith in z),
  subst (λ n. 0 < n) (sym (number_one (suc k) j)) (pow_pos (j + 64 * suc k)),
  normal_one k j h,
)

pub normal_bit : (p : ℕ) → IsNormal (replicate (p / 64) 0 ++ 2 ^ (p % 64) ∷ [])
normal_bit p = normal_one (p / 64) (p % 64) (omega arith)

-- ---- as the code has it

pub apart_result : (xs ys vs ws : List ℕ) (b : Bool) → IsNormal xs → IsNormal ys → vs ≡ xs → ws ≡ ys → IsTrue b
    ↔ AreApart vs ws → IsTrue b ↔ (bit_and (number xs) (number ys) ≡ 0)
apart_result xs ys vs ws b n m v w k =
    let k' : IsTrue b ↔ AreApart xs ys = subst (λ zs. IsTrue b ↔ AreApart zs ys) v
    (subst (λ zs. IsTrue b ↔ AreApart vs zs) w k) in
    let r = apart_number xs ys n m in
    (λ t. r.0 (k'.0 t), λ z. k'.1 (r.1 z))

widest : (a b : ℕ) → (max a b ≤ a) ⊎ (max a b ≤ b)
widest a b = elim (cases_lt a b) [ inl l ↦ inr (omega arith) | inr g ↦ inl (omega arith) ]

pub union_number : (xs ys vs ws out : List ℕ) → IsNormal xs → IsNormal ys → vs ≡ xs → ws ≡ ys
    → out ≡ or_words (max (length vs) (length ws)) vs ws → number out ≡ bit_or (number xs) (number ys)
union_number xs ys vs ws out n m v w e =
    let e' : out ≡ or_words (max (length xs) (length ys)) xs ys = e
    ∙ ap (λ zs. or_words (max (length zs) (length ws)) zs ws) v
    ∙ ap (λ zs. or_words (max (length xs) (length zs)) xs zs) w in
    ap number e' ∙ number_or (max (length xs) (length ys)) xs ys n m (omega arith) (omega arith)

pub union_normal : (xs ys vs ws out : List ℕ) → IsNormal xs → IsNormal ys → vs ≡ xs → ws ≡ ys
    → out ≡ or_words (max (length vs) (length ws)) vs ws → IsNormal out
union_normal xs ys vs ws out n m v w e =
    let e' : out ≡ or_words (max (length xs) (length ys)) xs ys = e
    ∙ ap (λ zs. or_words (max (length zs) (length ws)) zs ws) v
    ∙ ap (λ zs. or_words (max (length xs) (length zs)) xs zs) w in
    subst IsNormal (sym e') (normal_or (max (length xs) (length ys)) xs ys n m (omega arith) (omega arith)
    (widest (length xs) (length ys)))

drop_next : (xs : List ℕ) (i : ℕ) → drop 1 (drop i xs) ≡ drop (suc i) xs
drop_next xs zero = refl
drop_next [] (suc i) = refl
drop_next (x ∷ xs) (suc i) = drop_next xs i

drop_drop : (xs : List ℕ) (i : ℕ) → drop 1 (drop i xs) ≡ drop (i + 1) xs
drop_drop xs i = let e : suc i ≡ i + 1 = omega arith in drop_next xs i ∙ ap (λ n. drop n xs) e

first_dropped : (xs : List ℕ) (i : ℕ) → slice_index (drop i xs) 0 ≡ slice_index xs i
first_dropped xs zero = refl
first_dropped [] (suc i) = refl
first_dropped (x ∷ xs) (suc i) = first_dropped xs i

pub united_step : (width i : ℕ) (xs ys old new all : List ℕ) (x y : ℕ) → i < width
    → old ++ or_words (width - i) (drop i xs) (drop i ys) ≡ all → x ≡ slice_index xs i → y ≡ slice_index ys i
    → new ≡ old ++ bit_or x y ∷ [] → new ++ or_words (width - (i + 1)) (drop (i + 1) xs) (drop (i + 1) ys) ≡ all
united_step width i xs ys old new all x y h e xe ye ne =
    let k : ℕ = width - (i + 1) in
    let w : width - i ≡ suc k = omega arith in
    let word : bit_or (slice_index (drop i xs) 0) (slice_index (drop i ys) 0)
    ≡ bit_or x y = ap (λ a. bit_or a (slice_index (drop i ys) 0)) (first_dropped xs i ∙ sym xe)
    ∙ ap (bit_or x) (first_dropped ys i ∙ sym ye) in
    let rest : or_words k (drop 1 (drop i xs)) (drop 1 (drop i ys))
    ≡ or_words k (drop (i + 1) xs) (drop (i + 1) ys) = ap (λ zs. or_words k zs (drop 1 (drop i ys)))
    (drop_drop xs i) ∙ ap (or_words k (drop (i + 1) xs)) (drop_drop ys i) in
    let split : or_words (width - i) (drop i xs) (drop i ys) ≡ bit_or x y
    ∷ or_words k (drop (i + 1) xs) (drop (i + 1) ys) = ap (λ n. or_words n (drop i xs) (drop i ys)) w
    ∙ (λ j. word j ∷ rest j) in
    ap (λ zs. zs ++ or_words k (drop (i + 1) xs) (drop (i + 1) ys)) ne
    ∙ append_assoc old (bit_or x y ∷ []) (or_words k (drop (i + 1) xs) (drop (i + 1) ys))
    ∙ sym (ap (λ zs. old ++ zs) split) ∙ e
