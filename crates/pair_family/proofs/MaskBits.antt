-- Masks as numbers: their rows, the first of their ones, what they weigh in a digest and how many ones they have.
use Rattle.std.proofs.Common.{◌≡◌, ◌≢◌, ℕ, zero, suc, ◌+◌, ◌-◌, ◌*◌, ◌<◌, ◌≤◌, ◌^◌, ◌/◌, ◌%◌, List, [], ◌∷◌, ◌++◌, map, filter}
use Rattle.std.proofs.Common.{Bool, true, false, ◌&&◌, nat_eq, length, get_or, take, refl, sym, ap, ◌∙◌, inl, inr, subst, arith}
use Rattle.std.proofs.Common.{bit_and}
use Rattle.std.specs.Prelude.{if◌then◌else◌, slice_index, count_ones}
use Rattle.std.specs.Int.{bit_at, w64, trailing_zeros}
use Rattle.std.specs.Simd.Lanes.{mask_l}
use Rattle.std.specs.Cmp.Lexicographic.{pointwise}
use Rattle.std.proofs.lemmas.Simd.{mask_l-lt}
use Rattle.std.proofs.lemmas.Bool.{cases_Bool, cases_eq, cases_lt, eq-eqb, ne_eqb, eqb-true, both_ways, and_parts}
use Rattle.std.proofs.lemmas.List.{take_more, length-map, map-append, length-append}
use Rattle.std.proofs.lemmas.Nat.{mod-pow-add, ones_cat, ones-le, pow_pos, shl_whole, and_le_l, mul-le}
use lib.Count.{ones_step}
use Rattle.std.proofs.lemmas.Nat.Bits.{bit_at-lt, bit_at-trailing_zeros, bit_at_above, bit_at_clear_same, bit_at_clear_other}
use Rattle.std.proofs.Math.Nat.{pow-succ', pow-le-pow_right}
use Rattle.cyc_basics.specs.Bits.{is_one}
use Rattle.cyc_basics.proofs.Tests.{pointwise_self}
use Rattle.pair_family.specs.Combination.{upto, pairs_below}
use Rattle.pair_family.specs.Equality.{two_eq, two_refl, pairs_decide, pair_weight, pairs_digest_from, pairs_digest}
use Rattle.pair_family.specs.Labels.{row, has_same, has_difference, AreNear, AreSmall}
use Rattle.pair_family.specs.Masks.{picked, pairs_in}
use Rattle.pair_family.proofs.Masks.{picked_filter, picked_first, one_of_mask}

-- ---- masks of lists of answers

pow_le : (i j : ℕ) → i ≤ j → 2 ^ i ≤ 2 ^ j
pow_le i j l = pow-le-pow_right {n = 2} (omega arith) l

-- a mask of one list behind another
pub mask_append : (xs ys : List Bool) → mask_l (xs ++ ys) ≡ mask_l xs + mask_l ys * 2 ^ length xs
mask_append [] ys = omega arith
mask_append (x ∷ xs) ys =
    let b : ℕ = if x then 1 else 0 in
    ap (λ z. b + 2 * z) (mask_append xs ys) ∙ step b (mask_l xs) (mask_l ys) (2 ^ length xs)
    ∙ ap (λ z. b + 2 * mask_l xs + mask_l ys * z) (sym (pow-succ' 2 (length xs)))
  where
    step : (b a m n : ℕ) → b + 2 * (a + m * n) ≡ b + 2 * a + m * (2 * n)
    step b a m n = omega arith

length_first : {X : Type 0} (k : ℕ) (xs : List X) → k ≤ length xs → length (take k xs) ≡ k
length_first zero xs l = refl
length_first (suc k) [] l = absurd (omega (arith, l))
length_first (suc k) (x ∷ xs) l = ap suc (length_first k xs (omega (arith, l)))

row_below : (p : ℕ → Bool) (xs : List ℕ) (k : ℕ) → k ≤ length xs → mask_l (map p (take k xs)) < 2 ^ k
row_below p xs k l =
    subst (λ n. mask_l (map p (take k xs)) < 2 ^ n) (length-map (take k xs) p ∙ length_first k xs l)
    (mask_l-lt (map p (take k xs)))

-- one more entry of a row
pub row_more : (p : ℕ → Bool) (xs : List ℕ) (k mask bit add : ℕ) (b : Bool) → k < length xs
    → bit ≡ 2 ^ k → mask ≡ mask_l (map p (take k xs)) → b ≡ p (get_or xs k 0) → add ≡ (if b then bit else 0)
    → mask + add ≡ mask_l (map p (take (k + 1) xs))
row_more p xs k mask bit add b l e m t a =
    let firsts : List Bool = map p (take k xs) in
    let n : length firsts ≡ k = length-map (take k xs) p ∙ length_first k xs (omega (arith, l)) in
    let one = λ (z : Bool). let o : ℕ = if z then 2 ^ k else 0 in o in
    let added : add ≡ one (p (get_or xs k 0)) = a ∙ (λ i. if t i then e i else 0) in
    (λ i. m i + added i)
    ∙ elim (p (get_or xs k 0)) as (λ z. mask_l firsts + one z ≡ mask_l firsts + mask_l (z ∷ []) * 2 ^ k) [
      | true ↦ omega arith
      | false ↦ omega arith
    ]
    ∙ ap (λ z. mask_l firsts + mask_l (p (get_or xs k 0) ∷ []) * 2 ^ z) (sym n)
    ∙ sym (mask_append firsts (p (get_or xs k 0) ∷ []))
    ∙ ap mask_l (sym (map-append p (take k xs) (get_or xs k 0 ∷ []))) ∙ ap (λ z. mask_l (map p z)) (sym (take_more xs k 0 l))

pub bit_more : (k bit : ℕ) → bit ≡ 2 ^ k → bit * 2 ≡ 2 ^ (k + 1)
bit_more k bit e =
    let s : 2 ^ suc k ≡ 2 * 2 ^ k = pow-succ' 2 k in
    let n : k + 1 ≡ suc k = omega arith in
    let r : bit * 2 ≡ 2 ^ suc k = omega (arith, e, s) in r ∙ sym (ap (λ z. 2 ^ z) n)

at_most : (b : Bool) (add bit : ℕ) → add ≡ (if b then bit else 0) → add ≤ bit
at_most true add bit e = omega (arith, e)
at_most false add bit e = omega (arith, e)

-- nothing wraps in a row of at most 63 entries
pub row_fits : (p : ℕ → Bool) (xs : List ℕ) (k mask bit add : ℕ) (b : Bool) → k < length xs → length xs ≤ 63
    → bit ≡ 2 ^ k → mask ≡ mask_l (map p (take k xs)) → add ≡ (if b then bit else 0)
    → (mask + add < 2 ^ 64) × (bit * 2 < 2 ^ 64)
row_fits p xs k mask bit add b l few e m a =
    let below : mask_l (map p (take k xs)) < 2 ^ k = row_below p xs k (omega (arith, l)) in
    let least : 2 ^ k ≤ 2 ^ 62 = pow_le k 62 (omega (arith, l, few)) in
    let most : add ≤ bit = at_most b add bit a in
    (omega (arith, below, least, most, e, m), omega (arith, least, e))

-- a row, by its numbers
pub row_is : (g : ℕ → Bool) (t : ℕ × ℕ → Bool) (xs : List ℕ) (j n : ℕ) → n ≤ length xs
    → ((i : ℕ) → i < n → g (slice_index xs i) ≡ t (i, j)) → map g (take n xs) ≡ map t (row j n)
row_is g t xs j zero l h = refl
row_is g t xs j (suc n) l h =
    let e : suc n ≡ n + 1 = omega arith in
    let rest = row_is g t xs j n (omega (arith, l)) (λ i m. h i (omega (arith, m))) in
    let here = h n (omega arith) in
    ap (λ z. map g (take z xs)) e ∙ ap (map g) (take_more xs n 0 (omega (arith, l)))
    ∙ map-append g (take n xs) (slice_index xs n ∷ []) ∙ (λ i. rest i ++ (here i ∷ []))
    ∙ sym (map-append t (row j n) ((n, j) ∷ [])) ∙ ap (map t) (sym (map-append (λ i. (i, j)) (upto n) (n ∷ [])))

-- ---- the pairs below a number

length_upto : (n : ℕ) → length (upto n) ≡ n
length_upto zero = refl
length_upto (suc n) = length-append (upto n) (n ∷ []) ∙ omega (arith, length_upto n)

pub length_more : (j : ℕ) → length (pairs_below (suc j)) ≡ length (pairs_below j) + j
length_more j =
    length-append (pairs_below j) (row j j)
    ∙ ap (λ z. length (pairs_below j) + z) (length-map (upto j) (λ i. (i, j)) ∙ length_upto j)

above : (n m : ℕ) → n ≤ m → length (pairs_below n) ≤ length (pairs_below m)
above n zero l =
    let e : zero ≡ n = omega (arith, l) in
    subst (λ z. length (pairs_below z) ≤ length (pairs_below zero)) e (omega arith)
above n (suc m) l =
    elim (cases_eq n (suc m)) [
      | inl e ↦ subst (λ z. length (pairs_below n) ≤ length (pairs_below z)) e (omega arith)
      | inr d ↦
          (let below = above n m (omega (arith, l, d)) in
          let more : length (pairs_below (suc m)) ≡ length (pairs_below m) + m = length_more m in
          omega (arith, below, more))
    ]

pub few_pairs : (n : ℕ) → n ≤ 11 → length (pairs_below n) ≤ 55
few_pairs n l = above n 11 l

pub append_none : (xs : List (ℕ × ℕ)) → xs ++ [] ≡ xs
append_none [] = refl
append_none (x ∷ xs) = ap (λ z. x ∷ z) (append_none xs)

append_both : (xs ys zs : List (ℕ × ℕ)) → (xs ++ ys) ++ zs ≡ xs ++ (ys ++ zs)
append_both [] ys zs = refl
append_both (x ∷ xs) ys zs = ap (λ z. x ∷ z) (append_both xs ys zs)

-- the pairs below a number go on as those below a greater one
behind : (n m : ℕ) → n ≤ m → (ys : List (ℕ × ℕ)) × (pairs_below m ≡ pairs_below n ++ ys)
behind n zero l =
    let e : n ≡ zero = omega (arith, l) in
    ([], sym (append_none (pairs_below n) ∙ ap pairs_below e))
behind n (suc m) l =
    elim (cases_eq n (suc m)) [
      | inl e ↦ ([], sym (append_none (pairs_below n) ∙ ap pairs_below e))
      | inr d ↦
          (let r = behind n m (omega (arith, l, d)) in
          (r.0 ++ row m m, ap (λ z. z ++ row m m) r.1 ∙ append_both (pairs_below n) r.0 (row m m)))
    ]

-- the mask of a question of the pairs has those of which it is true
pub pairs_of_mask : (p : ℕ × ℕ → Bool) (n : ℕ) → n ≤ 11 → pairs_in (mask_l (map p (pairs_below n)))
    ≡ filter p (pairs_below n)
unfolding pairs_in
pairs_of_mask p n l =
    let r = behind n 11 l in
    let m : ℕ = mask_l (map p (pairs_below n)) in
    let z = λ (i : ℕ). let e : 0 + i ≡ i = omega arith in e in
    ap (picked 0 m) r.1
    ∙ picked_filter p 0 m (pairs_below n) r.0 (λ i. ap (is_one m) (z i) ∙ one_of_mask (map p (pairs_below n)) i)

pub mask_small : (p : ℕ × ℕ → Bool) (n : ℕ) → n ≤ 11 → mask_l (map p (pairs_below n)) < 2 ^ 55
mask_small p n l =
    let below : mask_l (map p (pairs_below n)) < 2 ^ length (pairs_below n) = subst
    (λ z. mask_l (map p (pairs_below n)) < 2 ^ z) (length-map (pairs_below n) p) (mask_l-lt (map p (pairs_below n))) in
    let least : 2 ^ length (pairs_below n) ≤ 2 ^ 55 = pow_le (length (pairs_below n)) 55 (few_pairs n l) in
    omega (arith, below, least)

-- one more row
pub mask_more : (p : ℕ × ℕ → Bool) (j bits mask one : ℕ) → j < 11 → bits ≡ length (pairs_below j)
    → mask ≡ mask_l (map p (pairs_below j)) → one ≡ mask_l (map p (row j j))
    → mask + one * 2 ^ bits % 2 ^ 64 ≡ mask_l (map p (pairs_below (j + 1)))
mask_more p j bits mask one l b m o =
    let rows : List Bool = map p (row j j) in
    let long : length rows ≡ j = length-map (row j j) p ∙ (length-map (upto j) (λ i. (i, j)) ∙ length_upto j) in
    let below : one < 2 ^ j = subst (λ z. one < 2 ^ z) long (subst (λ z. z < 2 ^ length rows) (sym o) (mask_l-lt rows)) in
    let few : length (pairs_below j) + j ≤ 55 = subst (λ z. z ≤ 55) (length_more j) (few_pairs (suc j) (omega (arith, l))) in
    let whole : one * 2 ^ bits % 2 ^ 64 ≡ one * 2 ^ bits = shl_whole one j bits 64 below (omega (arith, few, b)) in
    let e : suc j ≡ j + 1 = omega arith in
    let size : bits ≡ length (map p (pairs_below j)) = b ∙ sym (length-map (pairs_below j) p) in
    ap (λ z. mask + z) whole ∙ (λ i. m i + o i * 2 ^ size i)
    ∙ sym (mask_append (map p (pairs_below j)) rows) ∙ ap mask_l (sym (map-append p (pairs_below j) (row j j)))
    ∙ ap (λ z. mask_l (map p (pairs_below z))) e

pub bits_more : (j bits : ℕ) → bits ≡ length (pairs_below j) → bits + j ≡ length (pairs_below (j + 1))
bits_more j bits e =
    let n : suc j ≡ j + 1 = omega arith in
    ap (λ z. z + j) e ∙ (sym (length_more j) ∙ ap (λ z. length (pairs_below z)) n)

-- the rows of the two masks
pub same_rows : (labels : List ℕ) (j : ℕ) → j < length labels
    → mask_l (map (λ x. nat_eq x (slice_index labels j)) (take j labels)) ≡ mask_l (map (has_same labels) (row j j))
same_rows labels j l = ap mask_l (row_is (λ x. nat_eq x (slice_index labels j)) (has_same labels) labels j j
    (omega (arith, l)) (λ i m. refl))

pub near_rows : (labels : List ℕ) (ds : List (ℕ × ℕ)) (near : List ℕ) (j : ℕ) → j < length labels → AreNear ds near
    → AreSmall labels → mask_l (map (is_one (get_or near (slice_index labels j) 0)) (take j labels))
    ≡ mask_l (map (has_difference labels ds) (row j j))
near_rows labels ds near j l n s =
    ap mask_l (row_is (is_one (get_or near (slice_index labels j) 0)) (has_difference labels ds) labels j j
    (omega (arith, l)) (λ i m. n.right (slice_index labels j) (slice_index labels i) (s.below j l)
    (s.below i (omega (arith, l, m)))))

pub small_first : (labels : List ℕ) (j : ℕ) → AreSmall labels → AreSmall (take j labels)
small_first labels j s =
    record { below = λ i l. within labels j i (λ k m. s.below k m) l }
  where
    within : (xs : List ℕ) (j i : ℕ) → ((k : ℕ) → k < length xs → slice_index xs k < 64) → i < length (take j xs)
        → slice_index (take j xs) i < 64
    within xs zero i h l = absurd (omega (arith, l))
    within [] (suc j) i h l = absurd (omega (arith, l))
    within (x ∷ xs) (suc j) zero h l = h 0 (omega arith)
    within (x ∷ xs) (suc j) (suc i) h l = within xs j i (λ k m. h (suc k) (omega (arith, m))) (omega (arith, l))

-- ---- the first of the ones

pub place_below : (m : ℕ) → m ≢ 0 → m < 2 ^ 55 → trailing_zeros w64 m < 55
place_below m z l =
    let p : ℕ = trailing_zeros w64 m in
    let found = bit_at-trailing_zeros w64 m (omega (arith, z)) (omega (arith, l)) in
    elim (cases_lt p 55) [
      | inl y ↦ y
      | inr n ↦ absurd (omega (arith, found.1, bit_at_above m 55 p l (omega (arith, n))))
    ]

abbrev cleared : ℕ → ℕ → ℕ
cleared m p = bit_and m (18446744073709551615 - 1 * 2 ^ p % 18446744073709551616)

pub fewer_ones : (m : ℕ) → m ≢ 0 → m < 2 ^ 55 → cleared m (trailing_zeros w64 m) < m
fewer_ones m z l =
    let p : ℕ = trailing_zeros w64 m in
    let found = bit_at-trailing_zeros w64 m (omega (arith, z)) (omega (arith, l)) in
    let gone : bit_at (cleared m p) p ≡ 0 = bit_at_clear_same w64 m p found.0 in
    elim (cases_eq (cleared m p) m) [
      | inl e ↦ absurd (omega (arith, found.1, gone, ap (λ x. bit_at x p) e))
      | inr d ↦ omega (arith, d, and_le_l m (18446744073709551615 - 1 * 2 ^ p % 18446744073709551616))
    ]

pub first_of_ones : (m : ℕ) → m ≢ 0 → m < 2 ^ 55
    → pairs_in m ≡ get_or (pairs_below 11) (trailing_zeros w64 m) (0, 0) ∷ pairs_in (cleared m (trailing_zeros w64 m))
unfolding pairs_in
first_of_ones m z l =
    let p : ℕ = trailing_zeros w64 m in
    let found = bit_at-trailing_zeros w64 m (omega (arith, z)) (omega (arith, l)) in
    let place = place_below m z l in
    let less : cleared m p < 2 ^ 55 = omega (arith, l, fewer_ones m z l) in
    let other = λ (j : ℕ) (d : j ≢ p). let r : bit_at (cleared m p) j ≡ bit_at m j = elim (cases_lt j 64) [
      | inl y ↦ bit_at_clear_other w64 m p found.0 j y d
      | inr n ↦ bit_at_above (cleared m p) 55 j less (omega (arith, n)) ∙ sym (bit_at_above m 55 j l (omega (arith, n)))
    ] in r in
    let at = λ (x i : ℕ). let e : is_one x (0 + i) ≡ is_one x i = (let e : 0 + i ≡ i = omega arith in ap (is_one x) e) in e in
    picked_first 0 m (cleared m p) p (pairs_below 11) (0, 0) place
    (λ j b. at m j ∙ ap (λ x. nat_eq x 1) (found.2 j b)) (at m p ∙ ap (λ x. nat_eq x 1) found.1)
    (at (cleared m p) p ∙ ap (λ x. nat_eq x 1) (bit_at_clear_same w64 m p found.0))
    (λ j d. at (cleared m p) j ∙ (ap (λ x. nat_eq x 1) (other j d) ∙ sym (at m j)))

pub pairs_none : pairs_in 0 ≡ []
unfolding pairs_in
pairs_none = refl

-- ---- digests and sizes

-- each entry weighs the power of its place
weighs : ℕ → List (ℕ × ℕ) → Bool
weighs k [] = true
weighs k (q ∷ qs) = nat_eq (pair_weight q) (2 ^ k) && weighs (suc k) qs

bit_mod : (m k : ℕ) → m % 2 ^ suc k ≡ bit_at m k * 2 ^ k + m % 2 ^ k
bit_mod m k =
    let e : suc k ≡ 1 + k = omega arith in
    ap (λ z. m % 2 ^ z) e ∙ mod-pow-add m 1 k

mod_below : (m k : ℕ) → m % 2 ^ k < 2 ^ k
mod_below m k = omega (arith, pow_pos k)

with_one : (h w p bit low next : ℕ) → h ≡ low → w ≡ p → bit ≡ 1 → next ≡ bit * p + low → next < 2 ^ 64
    → (h + w) % 2 ^ 64 ≡ next
with_one h w p bit low next e f b split small =
    let t : next ≡ 1 * p + low = split ∙ ap (λ z. z * p + low) b in omega (arith, e, f, t, small)

without_one : (h p bit low next : ℕ) → h ≡ low → bit ≡ 0 → next ≡ bit * p + low → h ≡ next
without_one h p bit low next e b split =
    let t : next ≡ 0 * p + low = split ∙ ap (λ z. z * p + low) b in omega (arith, e, t)

digest_picked : (k m h : ℕ) (xs : List (ℕ × ℕ)) → weighs k xs ≡ true → k + length xs ≤ 64 → h ≡ m % 2 ^ k
    → pairs_digest_from h (picked k m xs) ≡ m % 2 ^ (k + length xs)
unfolding weighs
digest_picked k m h [] w l e =
    let n : k ≡ k + 0 = omega arith in
    e ∙ ap (λ z. m % 2 ^ z) n
digest_picked k m h (q ∷ qs) w l e =
    let parts = and_parts (nat_eq (pair_weight q) (2 ^ k)) (weighs (suc k) qs) w in
    let weight : pair_weight q ≡ 2 ^ k = eqb-true (pair_weight q) (2 ^ k) parts.0 in
    let n : suc k + length qs ≡ k + suc (length qs) = omega arith in
    let more : suc k + length qs ≤ 64 = omega (arith, l) in
    let k_few : suc k ≤ 64 = omega (arith, l) in
    let least : 2 ^ suc k ≤ 2 ^ 64 = pow_le (suc k) 64 k_few in
    let low : m % 2 ^ suc k < 2 ^ suc k = mod_below m (suc k) in
    let small : m % 2 ^ suc k < 2 ^ 64 = omega (arith, least, low) in
    let bit : bit_at m k < 2 = bit_at-lt m k in
    elim (cases_eq (bit_at m k) 1) [
      | inl y ↦
          (let now : (h + pair_weight q) % 2 ^ 64 ≡ m % 2 ^ suc k = with_one h (pair_weight q) (2 ^ k) (bit_at m k)
          (m % 2 ^ k) (m % 2 ^ suc k) e weight y (bit_mod m k) small in
          let here : is_one m k ≡ true = eq-eqb (bit_at m k) 1 y in
          rw here (digest_picked (suc k) m ((h + pair_weight q) % 2 ^ 64) qs parts.1 more now
          ∙ ap (λ z. m % 2 ^ z) n))
      | inr d ↦
          (let none : bit_at m k ≡ 0 = omega (arith, bit, d) in
          let now : h ≡ m % 2 ^ suc k = without_one h (2 ^ k) (bit_at m k) (m % 2 ^ k) (m % 2 ^ suc k) e none
          (bit_mod m k) in
          let here : is_one m k ≡ false = ne_eqb (bit_at m k) 1 d in
          rw here (digest_picked (suc k) m h qs parts.1 more now ∙ ap (λ z. m % 2 ^ z) n))
    ]

-- a mask is the digest of its pairs
pub digest_of_mask : (m : ℕ) → m < 2 ^ 55 → pairs_digest (pairs_in m) ≡ m
unfolding pairs_in weighs
digest_of_mask m l =
    let w : weighs 0 (pairs_below 11) ≡ true = refl in
    let none : 0 ≡ m % 2 ^ 0 = omega arith in
    let whole : m % 2 ^ 55 ≡ m = omega (arith, l) in
    let few : 0 + length (pairs_below 11) ≤ 64 = few_pairs_are in
    digest_picked 0 m 0 (pairs_below 11) w few none ∙ whole
  where
    few_pairs_are : 55 ≤ 64
    few_pairs_are = omega arith

pub same_masks : (a b : ℕ) → a < 2 ^ 55 → b < 2 ^ 55 → nat_eq a b ≡ pointwise two_eq (pairs_in a) (pairs_in b)
same_masks a b la lb =
    elim (cases_eq a b) [
      | inl e ↦
          eq-eqb a b e ∙ sym (subst (λ z. pointwise two_eq (pairs_in a) (pairs_in z) ≡ true) e
          (pointwise_self two_eq two_refl (pairs_in a)))
      | inr d ↦
          ne_eqb a b d ∙ elim (cases_Bool (pointwise two_eq (pairs_in a) (pairs_in b))) [
            | inl y ↦ absurd (d (sym (digest_of_mask a la)
                ∙ (ap pairs_digest ((pairs_decide (pairs_in a) (pairs_in b)).0 y) ∙ digest_of_mask b lb)))
            | inr n ↦ sym n
          ]
    ]

pub either_way : (xs ys : List (ℕ × ℕ)) → pointwise two_eq xs ys ≡ pointwise two_eq ys xs
either_way xs ys =
    elim (cases_Bool (pointwise two_eq xs ys)) [
      | inl y ↦ y ∙ sym ((pairs_decide ys xs).1 (sym ((pairs_decide xs ys).0 y)))
      | inr n ↦ elim (cases_Bool (pointwise two_eq ys xs)) [
        | inl z ↦ absurd (both_ways (pointwise two_eq xs ys) n ((pairs_decide xs ys).1 (sym ((pairs_decide ys xs).0 z))))
        | inr z ↦ n ∙ sym z
      ]
    ]

ones_none : count_ones 0 ≡ 0
ones_none = omega (arith, ones-le 0 0 (omega arith))

ones_one : count_ones 1 ≡ 1
ones_one = ones_step 1 ∙ ap (λ z. 1 + z) ones_none

ones_picked : (k m : ℕ) (xs : List (ℕ × ℕ))
    → count_ones (m % 2 ^ k) + length (picked k m xs) ≡ count_ones (m % 2 ^ (k + length xs))
ones_picked k m [] =
    let n : k ≡ k + 0 = omega arith in
    omega (arith, ap (λ z. count_ones (m % 2 ^ z)) n)
ones_picked k m (q ∷ qs) =
    let n : suc k + length qs ≡ k + suc (length qs) = omega arith in
    let rest = ones_picked (suc k) m qs in
    let split : count_ones (m % 2 ^ suc k) ≡ count_ones (bit_at m k) + count_ones (m % 2 ^ k) = ap count_ones (bit_mod m k)
    ∙ ones_cat k (bit_at m k) (m % 2 ^ k) (mod_below m k) in
    let e = ap (λ z. count_ones (m % 2 ^ z)) n in
    let bit = bit_at-lt m k in
    elim (cases_eq (bit_at m k) 1) [
      | inl y ↦
          (let here : is_one m k ≡ true = eq-eqb (bit_at m k) 1 y in
          let one : count_ones (bit_at m k) ≡ 1 = ap count_ones y ∙ ones_one in
          rw here (omega (arith, rest, split, e, one)))
      | inr d ↦
          (let none : bit_at m k ≡ 0 = omega (arith, bit, d) in
          let here : is_one m k ≡ false = ne_eqb (bit_at m k) 1 d in
          let zero_ones : count_ones (bit_at m k) ≡ 0 = ap count_ones none ∙ ones_none in
          rw here (omega (arith, rest, split, e, zero_ones)))
    ]

-- a mask has as many ones as pairs
pub ones_of_mask : (m : ℕ) → m < 2 ^ 55 → count_ones m ≡ length (pairs_in m)
unfolding pairs_in
ones_of_mask m l =
    let whole : m % 2 ^ 55 ≡ m = omega (arith, l) in
    let low : m % 2 ^ 0 ≡ 0 = omega arith in
    let none : count_ones (m % 2 ^ 0) ≡ 0 = ap count_ones low ∙ ones_none in
    let some : count_ones (m % 2 ^ 0) + length (picked 0 m (pairs_below 11)) ≡ count_ones (m % 2 ^ 55) = ones_picked 0 m
    (pairs_below 11) in
    let all : count_ones (m % 2 ^ 55) ≡ count_ones m = ap count_ones whole in
    omega (arith, some, all, none)

-- ---- a list against a mask

pub place_fits : (i j : ℕ) → i < j → j < 11 → j * (j - 1) / 2 + i < 55
place_fits i j l b =
    omega (arith, mul-le j (j - 1) 10 9 (omega (arith, b)) (omega (arith, b)), l, b)

-- ---- what the functions ask

pub none_left : (m : ℕ) → m ≡ 0 → pairs_in m ≡ []
none_left m e = ap pairs_in e ∙ pairs_none

pub empty_mask : (m : ℕ) → m < 2 ^ 55 → nat_eq m 0 ≡ pointwise two_eq (pairs_in m) []
empty_mask m l = same_masks m 0 l (omega arith) ∙ ap (pointwise two_eq (pairs_in m)) pairs_none

pub mask_fits : (p : ℕ × ℕ → Bool) (j bits mask one : ℕ) → j < 11 → bits ≡ length (pairs_below j)
    → mask ≡ mask_l (map p (pairs_below j)) → one ≡ mask_l (map p (row j j)) → mask + one * 2 ^ bits % 2 ^ 64 < 2 ^ 64
mask_fits p j bits mask one l b m o =
    let e = mask_more p j bits mask one l b m o in
    let s = mask_small p (j + 1) (omega (arith, l)) in omega (arith, e, s)

pub whole_within : (p : ℕ × ℕ → Bool) (j mask : ℕ) → j ≤ 11 → mask ≡ mask_l (map p (pairs_below j)) → mask < 2 ^ 55
whole_within p j mask l m = subst (λ z. z < 2 ^ 55) (sym m) (mask_small p j l)

pub whole_pairs : (p : ℕ × ℕ → Bool) (j n mask : ℕ) → n ≤ 11 → j ≡ n → mask ≡ mask_l (map p (pairs_below j))
    → pairs_in mask ≡ filter p (pairs_below n)
whole_pairs p j n mask l e m =
    ap pairs_in (m ∙ ap (λ z. mask_l (map p (pairs_below z))) e) ∙ pairs_of_mask p n l

pub no_entries : (xs : List (ℕ × ℕ)) → length xs ≡ 0 → xs ≡ []
no_entries [] e = refl
no_entries (x ∷ xs) e = absurd (omega (arith, e))
