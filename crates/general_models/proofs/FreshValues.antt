-- Among fresh values that are as many as the values in use, some value is not in use if one of these is not fresh.
use Rattle.std.proofs.Common.{◌≡◌, ◌≢◌, ℕ, zero, suc, ◌+◌, ◌<◌, ◌≤◌, List, [], ◌∷◌, length, ◌⊎◌, inl, inr, sym, ◌∙◌}
use Rattle.std.proofs.Common.{subst, arith}
use Rattle.std.proofs.lemmas.Bool.{cases_order, cases_lt}
use Rattle.cyc_basics.specs.Words.{IsMember}

pub apart : (a b : ℕ) → ((a < b) ⊎ (b < a)) → a ≢ b
apart a b (inl l) = λ e. omega arith
apart a b (inr l) = λ e. omega arith

pub member_or_not : (x : ℕ) (xs : List ℕ) → IsMember x xs ⊎ (IsMember x xs → ⊥)
member_or_not x [] = inr (λ m. m)
member_or_not x (y ∷ ys) = elim (cases_order y x) [
  | inl e ↦ inl (inl e)
  | inr o ↦ elim (member_or_not x ys) [
    | inl m ↦ inl (inr m)
    | inr n ↦ inr (neither o n)
  ]
]
  where
    neither : ((y < x) ⊎ (x < y)) → (IsMember x ys → ⊥) → ((y ≡ x) ⊎ IsMember x ys) → ⊥
    neither o n (inl e) = apart y x o e
    neither o n (inr m) = n m

-- the members but for one
pub all_but : (x : ℕ) (xs : List ℕ) → IsMember x xs
    → (rest : List ℕ) × (length xs ≡ length rest + 1) × ((y : ℕ) → y ≢ x → IsMember y xs → IsMember y rest)
all_but x [] m = absurd m
all_but x (z ∷ zs) (inl e) = (zs, omega arith, others)
  where
    others : (y : ℕ) → y ≢ x → ((z ≡ y) ⊎ IsMember y zs) → IsMember y zs
    others y n (inl f) = absurd (n (sym f ∙ e))
    others y n (inr m) = m
all_but x (z ∷ zs) (inr m) =
    let r = all_but x zs m in
    let l : length zs ≡ length r.0 + 1 = r.1 in
    (z ∷ r.0, omega arith, others r.0 r.2)
  where
    others : (rest : List ℕ) → ((y : ℕ) → y ≢ x → IsMember y zs → IsMember y rest) → (y : ℕ) → y ≢ x
        → ((z ≡ y) ⊎ IsMember y zs) → ((z ≡ y) ⊎ IsMember y rest)
    others rest k y n (inl f) = inl f
    others rest k y n (inr m) = inr (k y n m)

-- a list that has so many numbers in a row is as long
counted : (base k : ℕ) (xs : List ℕ) → ((i : ℕ) → i < k → IsMember (base + i) xs) → k ≤ length xs
counted base zero xs all = omega arith
counted base (suc k) xs all =
    let r = all_but (base + k) xs (all k (omega arith)) in
    let l : length xs ≡ length r.0 + 1 = r.1 in
    let m : k ≤ length r.0 = counted base k r.0 (λ i lt. r.2 (base + i) (λ e. omega arith) (all i (omega arith))) in
    omega arith

sought : (base k : ℕ) (xs : List ℕ) → ((i : ℕ) × (i < k) × (IsMember (base + i) xs → ⊥))
    ⊎ ((i : ℕ) → i < k → IsMember (base + i) xs)
sought base zero xs = inr (λ i l. absurd (omega arith))
sought base (suc k) xs = elim (sought base k xs) [
  | inl r ↦ (let l = r.1 in inl (r.0, omega arith, r.2))
  | inr all ↦ elim (member_or_not (base + k) xs) [
    | inl m ↦ inr (upto all m)
    | inr n ↦ inl (k, omega arith, n)
  ]
]
  where
    upto : ((i : ℕ) → i < k → IsMember (base + i) xs) → IsMember (base + k) xs → (i : ℕ) → i < suc k
        → IsMember (base + i) xs
    upto all m i l = elim (cases_lt i k) [
      | inl below ↦ all i below
      | inr above ↦ (let e : k ≡ i = omega arith in subst (λ j. IsMember (base + j) xs) e m)
    ]

pub unused : (base k : ℕ) (xs : List ℕ) (x : ℕ) → IsMember x xs → ((i : ℕ) → i < k → base + i ≢ x) → length xs ≤ k
    → (i : ℕ) × (i < k) × (IsMember (base + i) xs → ⊥)
unused base k xs x m other few = elim (sought base k xs) [
  | inl r ↦ r
  | inr all ↦ absurd (too_many all)
]
  where
    too_many : ((i : ℕ) → i < k → IsMember (base + i) xs) → ⊥
    too_many all =
        let r = all_but x xs m in
        let l : length xs ≡ length r.0 + 1 = r.1 in
        let c : k ≤ length r.0 = counted base k r.0 (λ i lt. r.2 (base + i) (other i lt) (all i lt)) in
        omega arith
