-- Masks: the entries at the ones of a mask.
use Rattle.std.proofs.Common.{◌≡◌, ◌≢◌, ℕ, zero, suc, ◌+◌, ◌<◌, List, [], ◌∷◌, ◌++◌, map, filter, arith}
use Rattle.std.proofs.Common.{Bool, true, false, nat_eq, length, get_or, refl, sym, ap, ◌∙◌, inl, inr}
use Rattle.std.specs.Prelude.{if◌then◌else◌}
use Rattle.std.specs.Simd.Lanes.{mask_l}
use Rattle.std.proofs.lemmas.Simd.{bit_mask_l}
use Rattle.std.proofs.lemmas.Bool.{cases_Bool}
use Rattle.cyc_basics.specs.Bits.{is_one}
use Rattle.pair_family.specs.Masks.{picked}

pub one_of_mask : (ms : List Bool) (k : ℕ) → is_one (mask_l ms) k ≡ get_or ms k false
one_of_mask ms k =
    ap (λ n. nat_eq n 1) (bit_mask_l ms k)
    ∙ elim (get_or ms k false) as (λ b. nat_eq (if b then 1 else 0) 1 ≡ b) [ true ↦ refl | false ↦ refl ]

-- no bit is a one
pub picked_none : {X : Type 0} (k mask : ℕ) (xs : List X) → ((i : ℕ) → is_one mask (k + i) ≡ false)
    → picked k mask xs ≡ []
picked_none k mask [] h = refl
picked_none k mask (x ∷ xs) h =
    let e : k ≡ k + 0 = omega arith in
    let s = λ (i : ℕ). let t : suc k + i ≡ k + suc i = omega arith in t in
    let here : is_one mask k ≡ false = ap (is_one mask) e ∙ h 0 in
    let rest = picked_none (suc k) mask xs (λ i. ap (is_one mask) (s i) ∙ h (suc i)) in
    rw here rest

-- the same bits
pub picked_same : {X : Type 0} (k mask other : ℕ) (xs : List X)
    → ((i : ℕ) → is_one mask (k + i) ≡ is_one other (k + i)) → picked k mask xs ≡ picked k other xs
picked_same k mask other [] h = refl
picked_same {X} k mask other (x ∷ xs) h =
    let e : k ≡ k + 0 = omega arith in
    let here : is_one mask k ≡ is_one other k = ap (is_one mask) e ∙ (h 0 ∙ ap (is_one other) (sym e)) in
    let s = λ (i : ℕ). let t : suc k + i ≡ k + suc i = omega arith in t in
    let rest = picked_same (suc k) mask other xs
    (λ i. ap (is_one mask) (s i) ∙ (h (suc i) ∙ ap (is_one other) (sym (s i)))) in
    let one = λ (b : Bool). let z : List X = if b then x ∷ [] else [] in z in
    λ i. one (here i) ++ rest i

-- the bits are the answers to a question of the first entries
pub picked_filter : {X : Type 0} (p : X → Bool) (k mask : ℕ) (xs ys : List X)
    → ((i : ℕ) → is_one mask (k + i) ≡ get_or (map p xs) i false) → picked k mask (xs ++ ys) ≡ filter p xs
picked_filter p k mask [] ys h = picked_none k mask ys h
picked_filter p k mask (x ∷ xs) ys h =
    let e : k ≡ k + 0 = omega arith in
    let s = λ (i : ℕ). let t : suc k + i ≡ k + suc i = omega arith in t in
    let here : is_one mask k ≡ p x = ap (is_one mask) e ∙ h 0 in
    let rest = picked_filter p (suc k) mask xs ys (λ i. ap (is_one mask) (s i) ∙ h (suc i)) in
    elim (cases_Bool (p x)) [
      | inl y ↦ rw (here, y) (ap (λ z. x ∷ z) rest)
      | inr n ↦ rw (here, n) rest
    ]

-- the first of the ones, and the others
pub picked_first : {X : Type 0} (k mask other i : ℕ) (xs : List X) (d : X) → i < length xs
    → ((j : ℕ) → j < i → is_one mask (k + j) ≡ false) → is_one mask (k + i) ≡ true → is_one other (k + i) ≡ false
    → ((j : ℕ) → j ≢ i → is_one other (k + j) ≡ is_one mask (k + j))
    → picked k mask xs ≡ get_or xs i d ∷ picked k other xs
picked_first k mask other i [] d l none one gone same = absurd (omega (arith, l))
picked_first k mask other zero (x ∷ xs) d l none one gone same =
    let e : k ≡ k + 0 = omega arith in
    let here : is_one mask k ≡ true = ap (is_one mask) e ∙ one in
    let there : is_one other k ≡ false = ap (is_one other) e ∙ gone in
    let s = λ (j : ℕ). let t : suc k + j ≡ k + suc j = omega arith in t in
    let rest = picked_same (suc k) mask other xs (λ j. sym (ap (is_one other) (s j)
    ∙ (same (suc j) (λ z. omega (arith, z)) ∙ ap (is_one mask) (sym (s j))))) in
    rw (here, there) (ap (λ z. x ∷ z) rest)
picked_first k mask other (suc i) (x ∷ xs) d l none one gone same =
    let e : k ≡ k + 0 = omega arith in
    let here : is_one mask k ≡ false = ap (is_one mask) e ∙ none 0 (omega arith) in
    let there : is_one other k ≡ false = ap (is_one other) e ∙ (same 0 (λ z. omega (arith, z))
    ∙ none 0 (omega arith)) in
    let s = λ (j : ℕ). let t : suc k + j ≡ k + suc j = omega arith in t in
    let rest = picked_first (suc k) mask other i xs d (omega (arith, l))
    (λ j m. ap (is_one mask) (s j) ∙ none (suc j) (omega (arith, m))) (ap (is_one mask) (s i) ∙ one)
    (ap (is_one other) (s i) ∙ gone)
    (λ j n. ap (is_one other) (s j) ∙ (same (suc j) (λ z. n (omega (arith, z))) ∙ ap (is_one mask) (sym (s j)))) in
    rw (here, there) rest
