-- Masks as sets of positions: what they have, and which list they stand for.
use Rattle.std.proofs.Common.{◌≡◌, ℕ, zero, suc, ◌+◌, ◌-◌, ◌*◌, ◌%◌, ◌^◌, ◌<◌, ◌≤◌, ◌⊎◌, inl, inr, List, [], ◌∷◌, Bool}
use Rattle.std.proofs.Common.{true, false, not, ◌&&◌, ◌||◌, cond, filter, length, drop, get_or, nat_eq, bit_or, arith}
use Rattle.std.proofs.Common.{sym, refl, ap, ◌∙◌, subst, eqb-true}
use Rattle.std.specs.Prelude.{slice_index}
use Rattle.std.specs.Int.{bit_at}
use Rattle.std.specs.List.Sorted.{IsStrictlyIncreasing}
use Rattle.std.proofs.lemmas.Bool.{cases_Bool, cases_eq, cases_lt, both_ways, or_left, or_right, eq-eqb, ne_eqb}
use Rattle.std.proofs.lemmas.Bool.{false_from_ne_true}
use Rattle.std.proofs.lemmas.List.{drop_all, drop_more}
use Rattle.std.proofs.lemmas.Nat.{one_shl}
use Rattle.std.proofs.lemmas.Nat.Bits.{bit_at-lt, bit_at_not, bit_at_ones, bit_at-pow_same, bit_at-pow_other}
use Rattle.std.proofs.lemmas.Nat.Bits.{same_from_bits_below}
use Rattle.std.specs.Int.{w64}
use Rattle.buchi_core.specs.Forest.{IsPositionSet, has, places, is_filled}
use Rattle.buchi_core.specs.View.{members}
use Rattle.cyc_basics.specs.declared.limits.TheConstants.{MOST_POSITIONS}
use Rattle.cyc_basics.specs.Bits.{is_one}
use Rattle.cyc_basics.proofs.Bits.{one_or, one_zero}
use Rattle.std.proofs.Math.Bool.{or-false}

-- ---- places
places_agree : (f g : ℕ → Bool) (i n : ℕ) → ((q : ℕ) → i ≤ q → q < i + n → f q ≡ g q) → places f i n ≡ places g i n
places_agree f g i zero h = refl
places_agree f g i (suc n) h =
    let e : f i ≡ g i = h i (omega arith) (omega arith) in
    let r : places f (suc i) n ≡ places g (suc i) n = places_agree f g (suc i) n
    (λ q a b. h q (omega (arith, a)) (omega (arith, b))) in
    ap (λ b. cond b (i ∷ places f (suc i) n) (places f (suc i) n)) e ∙ ap (λ (z : List ℕ). cond (g i) (i ∷ z) z) r

places_filter : (f g : ℕ → Bool) (i n : ℕ) → filter f (places g i n) ≡ places (λ q. g q && f q) i n
places_filter f g i zero = refl
places_filter f g i (suc n) =
    let r = places_filter f g (suc i) n in
    elim (cases_Bool (g i)) [
      | inl y ↦ elim (cases_Bool (f i)) [ inl z ↦ rw (y, z) (ap (λ (w : List ℕ). i ∷ w) r) | inr z ↦ rw (y, z) r ]
      | inr y ↦ rw y r
    ]

has_below : (f : ℕ → Bool) (i n q : ℕ) → q < i → has (places f i n) q ≡ false
has_below f i zero q l = refl
has_below f i (suc n) q l =
    let r = has_below f (suc i) n q (omega arith) in
    let ne : nat_eq i q ≡ false = ne_eqb i q (λ e. omega (arith, e)) in
    elim (cases_Bool (f i)) [ inl y ↦ rw (y, ne) r | inr y ↦ rw y r ]

has_above : (f : ℕ → Bool) (i n q : ℕ) → i + n ≤ q → has (places f i n) q ≡ false
has_above f i zero q l = refl
has_above f i (suc n) q l =
    let r = has_above f (suc i) n q (omega arith) in
    let ne : nat_eq i q ≡ false = ne_eqb i q (λ e. omega (arith, e)) in
    elim (cases_Bool (f i)) [ inl y ↦ rw (y, ne) r | inr y ↦ rw y r ]

has_inside : (f : ℕ → Bool) (i n q : ℕ) → i ≤ q → q < i + n → has (places f i n) q ≡ f q
has_inside f i zero q a b = absurd (omega arith)
has_inside f i (suc n) q a b =
    elim (cases_eq i q) [
      | inl e ↦
          elim (cases_Bool (f i)) [
            | inl y ↦ rw y (or_left (nat_eq i q) (has (places f (suc i) n) q) (eq-eqb i q e)
                ∙ sym (subst (λ x. f x ≡ true) e y))
            | inr y ↦ rw y (has_below f (suc i) n q (omega arith) ∙ sym (subst (λ x. f x ≡ false) e y))
          ]
      | inr d ↦
          (let l : suc i ≤ q = (elim (cases_Bool (nat_eq i q))
          [ inl s ↦ absurd (d (eqb-true i q s)) | inr s ↦ omega (arith, d) ]) in
          let r = has_inside f (suc i) n q l (omega arith) in
          let ne : nat_eq i q ≡ false = ne_eqb i q d in
          elim (cases_Bool (f i)) [ inl y ↦ rw (y, ne) r | inr y ↦ rw y r ])
    ]

pub has_members : (m q : ℕ) → q < MOST_POSITIONS → has (members m) q ≡ is_one m q
unfolding members
has_members m q l = has_inside (is_one m) 0 MOST_POSITIONS q (omega arith) l

pub has_members_not : (m q : ℕ) → MOST_POSITIONS ≤ q → has (members m) q ≡ false
unfolding members
has_members_not m q l = has_above (is_one m) 0 MOST_POSITIONS q l

-- what a mask has is below MOST_POSITIONS, and is one of its ones
pub member_is : (m q : ℕ) → has (members m) q ≡ true → (q < MOST_POSITIONS) × (is_one m q ≡ true)
member_is m q h =
    elim (cases_lt q MOST_POSITIONS) [
      | inl l ↦ (l, sym (has_members m q l) ∙ h)
      | inr g ↦ absurd (both_ways (has (members m) q) (has_members_not m q g) h)
    ]

-- a mask whose ones are those of another that pass a test
pub members_filter : (m n : ℕ) (f : ℕ → Bool) → ((q : ℕ) → q < MOST_POSITIONS → is_one m q ≡ (is_one n q && f q))
    → members m ≡ filter f (members n)
unfolding members
members_filter m n f h = places_agree (is_one m) (λ q. is_one n q && f q) 0 MOST_POSITIONS (λ q a b. h q b)
    ∙ sym (places_filter f (is_one n) 0 MOST_POSITIONS)

-- ---- lists that rise
abbrev Rising : ℕ → List ℕ → Type 0
Rising i [] = Unit {0}
Rising i (x ∷ xs) = (i ≤ x) × Rising (suc x) xs

rising_of : (x : ℕ) (xs : List ℕ) → IsStrictlyIncreasing (x ∷ xs) → Rising (suc x) xs
rising_of x [] h = tt
rising_of x (y ∷ ys) h =
    let first : x < y = h 0 (omega arith) in
    let tail : IsStrictlyIncreasing (y ∷ ys) = λ k l. (
    let e : suc k + 1 ≡ suc (k + 1) = omega arith in
    subst (λ m. slice_index (x ∷ (y ∷ ys)) (suc k) < slice_index (x ∷ (y ∷ ys)) m) e (h (suc k) (omega (arith, l)))) in
    (first, rising_of y ys tail)

rising_start : (xs : List ℕ) → IsStrictlyIncreasing xs → Rising 0 xs
rising_start [] h = tt
rising_start (x ∷ xs) h = (omega arith, rising_of x xs h)

rising_not : (i : ℕ) (xs : List ℕ) (q : ℕ) → Rising i xs → q < i → has xs q ≡ false
rising_not i [] q r l = refl
rising_not i (x ∷ xs) q r l =
    let ne : nat_eq x q ≡ false = ne_eqb x q (λ e. omega (arith, e, r.0)) in
    let rest = rising_not (suc x) xs q r.1 (omega (arith, r.0)) in
    rw ne rest

places_empty : (i n : ℕ) → places (has []) i n ≡ []
places_empty i zero = refl
places_empty i (suc n) = places_empty (suc i) n

places_rising : (xs : List ℕ) (i n : ℕ) → Rising i xs → ((q : ℕ) → has xs q ≡ true → q < i + n)
    → places (has xs) i n ≡ xs
places_rising [] i n r b = places_empty i n
places_rising (x ∷ xs) i zero r b = absurd (omega (arith, r.0, b x (or_left (nat_eq x x) (has xs x) (eq-eqb x x refl))))
places_rising (x ∷ xs) i (suc n) r b =
    elim (cases_eq i x) [
      | inl e ↦
          (let here : has (x ∷ xs) i ≡ true = or_left (nat_eq x i) (has xs i) (eq-eqb x i (sym e)) in
          let agree : places (has (x ∷ xs)) (suc i) n ≡ places (has xs) (suc i) n =
          places_agree (has (x ∷ xs)) (has xs) (suc i) n (λ q a c. (
          let ne : nat_eq x q ≡ false = ne_eqb x q (λ d. omega (arith, d, e, a)) in
          ap (λ z. z || has xs q) ne)) in
          let rest : places (has xs) (suc i) n ≡ xs =
          places_rising xs (suc i) n (subst (λ z. Rising (suc z) xs) (sym e) r.1)
          (λ q m. omega (arith, b q (or_right (nat_eq x q) (has xs q) m))) in
          let both : places (has (x ∷ xs)) (suc i) n ≡ xs = agree ∙ rest in
          rw here (λ j. e j ∷ both j))
      | inr d ↦
          (let ne : nat_eq x i ≡ false = ne_eqb x i (λ e. d (sym e)) in
          let l : i < x = (elim (cases_eq i x) [ inl s ↦ absurd (d s) | inr s ↦ omega (arith, d, r.0) ]) in
          let away : has (x ∷ xs) i ≡ false = rw ne (rising_not (suc x) xs i r.1 (omega (arith, l))) in
          let rest : places (has (x ∷ xs)) (suc i) n
          ≡ (x ∷ xs) = places_rising (x ∷ xs) (suc i) n (omega (arith, l), r.1) (λ q m. omega (arith, b q m)) in
          rw away rest)
    ]

-- a mask that has what a set of positions has stands for it
pub members_set : (m : ℕ) (xs : List ℕ) → IsPositionSet xs → ((q : ℕ) → q < MOST_POSITIONS → is_one m q ≡ has xs q)
    → members m ≡ xs
unfolding members
members_set m xs s h = places_agree (is_one m) (has xs) 0 MOST_POSITIONS (λ q a b. h q b)
    ∙ places_rising xs 0 MOST_POSITIONS (rising_start xs s.0) (λ q m. s.1 q m)

-- ---- bits
bit_cases : (x : ℕ) → x < 2 → (x ≡ 0) ⊎ (x ≡ 1)
bit_cases zero l = inl refl
bit_cases (suc zero) l = inr refl
bit_cases (suc (suc x)) l = absurd (omega arith)

small_not : (x : ℕ) → x < 2 → nat_eq (1 - x) 1 ≡ not (nat_eq x 1)
small_not zero a = refl
small_not (suc zero) a = refl
small_not (suc (suc x)) a = absurd (omega arith)

pub one_not : (m q : ℕ) → m < 2 ^ 64 → q < MOST_POSITIONS → is_one (18446744073709551615 - m) q ≡ not (is_one m q)
one_not m q f l = ap (λ x. nat_eq x 1) (bit_at_not w64 m q f l) ∙ small_not (bit_at m q) (bit_at-lt m q)

pub one_pow : (p q : ℕ) → p < MOST_POSITIONS → is_one (1 * 2 ^ p % 18446744073709551616) q ≡ nat_eq p q
one_pow p q l =
    ap (λ x. is_one x q) (one_shl p 64 l) ∙
    elim (cases_eq q p) [
      | inl e ↦ ap (λ x. nat_eq x 1) (ap (bit_at (2 ^ p)) e ∙ bit_at-pow_same p) ∙ sym (eq-eqb p q (sym e))
      | inr d ↦ ap (λ x. nat_eq x 1) (bit_at-pow_other p q d) ∙ sym (ne_eqb p q (λ e. d (sym e)))
    ]

pub one_all : (q : ℕ) → q < MOST_POSITIONS → is_one 18446744073709551615 q ≡ true
one_all q l = ap (λ x. nat_eq x 1) (bit_at_ones 64 q l)

bit_is : (a b q : ℕ) → is_one a q ≡ is_one b q → bit_at a q ≡ bit_at b q
bit_is a b q e =
    elim (bit_cases (bit_at a q) (bit_at-lt a q)) [
      | inl x ↦
          elim (bit_cases (bit_at b q) (bit_at-lt b q)) [
            | inl y ↦ x ∙ sym y
            | inr y ↦ absurd (both_ways (is_one b q) (sym e ∙ ap (λ z. nat_eq z 1) x) (ap (λ z. nat_eq z 1) y))
          ]
      | inr x ↦
          elim (bit_cases (bit_at b q) (bit_at-lt b q)) [
            | inl y ↦ absurd (both_ways (is_one b q) (ap (λ z. nat_eq z 1) y) (sym e ∙ ap (λ z. nat_eq z 1) x))
            | inr y ↦ x ∙ sym y
          ]
    ]

-- masks with the same ones are equal
pub same_mask : (a b : ℕ) → a < 2 ^ 64 → b < 2 ^ 64 → ((q : ℕ) → q < MOST_POSITIONS → is_one a q ≡ is_one b q) → a ≡ b
same_mask a b la lb h = same_from_bits_below 64 a b la lb (λ q l. bit_is a b q (h q l))

pub same_members : (a b : ℕ) → a < 2 ^ 64 → b < 2 ^ 64 → members a ≡ members b → a ≡ b
same_members a b la lb e = same_mask a b la lb (λ q l. sym (has_members a q l)
    ∙ (ap (λ (z : List ℕ). has z q) e ∙ has_members b q l))

pub no_ones : (m : ℕ) → m < 2 ^ 64 → ((q : ℕ) → q < MOST_POSITIONS → is_one m q ≡ false) → m ≡ 0
no_ones m l h = same_mask m 0 l (omega arith) (λ q k. h q k ∙ sym (one_zero q))

pub filled_has : (xs : List ℕ) → is_filled xs ≡ true → (q : ℕ) × (has xs q ≡ true)
filled_has [] h = absurd (both_ways false refl h)
filled_has (x ∷ xs) h = (x, or_left (nat_eq x x) (has xs x) (eq-eqb x x refl))

pub has_filled : (xs : List ℕ) (q : ℕ) → has xs q ≡ true → is_filled xs ≡ true
has_filled [] q h = absurd (both_ways false refl h)
has_filled (x ∷ xs) q h = refl

-- a mask is filled where it isn't 0
pub filled_mask : (m : ℕ) → m < 2 ^ 64 → is_filled (members m) ≡ not (nat_eq m 0)
filled_mask m l =
    elim (cases_Bool (is_filled (members m))) [
      | inl y ↦
          (let x = filled_has (members m) y in
          let o = member_is m x.0 x.1 in
          let ne : nat_eq m 0 ≡ false = ne_eqb m 0 (λ e. both_ways (is_one m x.0)
          (ap (λ z. is_one z x.0) e ∙ one_zero x.0) o.1) in
          y ∙ sym (ap not ne))
      | inr n ↦
          (let z : m ≡ 0 = no_ones m l (λ q k. false_from_ne_true (is_one m q)
          (λ t. both_ways (is_filled (members m)) n (has_filled (members m) q (has_members m q k ∙ t)))) in
          n ∙ sym (ap not (eq-eqb m 0 z)))
    ]

-- ---- a turn of the loop over positions
pub or_more : (a b x z w : Bool) → x ≡ (a || b) → (a || (b || z)) ≡ w → (x || z) ≡ w
or_more true b x z w e h = ap (λ y. y || z) e ∙ h
or_more false b x z w e h = ap (λ y. y || z) e ∙ h

pub position_more : (ps : List ℕ) (mask bit i q d : ℕ) → i < length ps → is_one bit q ≡ nat_eq (get_or ps i d) q
    → (is_one mask q || has (drop i ps) q) ≡ has ps q → (is_one (bit_or mask bit) q || has (drop (i + 1) ps) q)
    ≡ has ps q
position_more ps mask bit i q d l b h =
    or_more (is_one mask q) (nat_eq (get_or ps i d) q) (is_one (bit_or mask bit) q) (has (drop (i + 1) ps) q) (has ps q)
    (one_or mask bit q ∙ ap (λ z. is_one mask q || z) b)
    (subst (λ (z : List ℕ). (is_one mask q || has z q) ≡ has ps q) (drop_more ps i d l) h)

pub position_end : (ps : List ℕ) (mask i q : ℕ) → length ps ≤ i → (is_one mask q || has (drop i ps) q) ≡ has ps q
    → is_one mask q ≡ has ps q
position_end ps mask i q l h =
    sym (or-false (is_one mask q)) ∙ subst (λ (z : List ℕ). (is_one mask q || has z q) ≡ has ps q) (drop_all i ps l) h
