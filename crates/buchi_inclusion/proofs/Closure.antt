-- The closure is exact.
use Rattle.std.proofs.Common.{◌≡◌, ℕ, zero, suc, ◌<◌, inl, inr, arith, Bool, true, false, ◌&&◌, nat_eq, refl, subst}
use Rattle.std.proofs.Common.{eqb-true, eq-eqb}
use Rattle.std.proofs.lemmas.Bool.{cases_eq, and_parts, or_cases, or_left, or_right, both_ways, and_from}
use Rattle.buchi_inclusion.specs.Closure.{closure, some_below}

-- what the closure tells is so of each relation that has the edges and is reflexive and transitive
pub closure_sound : (edge : ℕ → ℕ → Bool) (R : ℕ → ℕ → Type 0) → ((i : ℕ) → R i i)
    → ((i j : ℕ) → edge i j ≡ true → R i j) → ((i j k : ℕ) → R i j → R j k → R i k) → (k i j : ℕ)
    → closure edge k i j ≡ true → R i j
closure_sound edge R id one two zero i j h =
    elim (or_cases (nat_eq i j) (edge i j) h) [
      | inl same ↦ subst (R i) (eqb-true i j same) (id i)
      | inr step ↦ one i j step
    ]
closure_sound edge R id one two (suc k) i j h =
    elim (or_cases (closure edge k i j) (closure edge k i k && closure edge k k j) h) [
      | inl a ↦ closure_sound edge R id one two k i j a
      | inr b ↦
          (let p = and_parts (closure edge k i k) (closure edge k k j) b in
          two i k j (closure_sound edge R id one two k i k p.0) (closure_sound edge R id one two k k j p.1))
    ]

closure_more : (edge : ℕ → ℕ → Bool) (k i j : ℕ) → closure edge k i j ≡ true → closure edge (suc k) i j ≡ true
closure_more edge k i j h = or_left (closure edge k i j) (closure edge k i k && closure edge k k j) h

closure_over : (edge : ℕ → ℕ → Bool) (k i j : ℕ) → closure edge k i k ≡ true → closure edge k k j ≡ true
    → closure edge (suc k) i j ≡ true
closure_over edge k i j a b = or_right (closure edge k i j) (closure edge k i k && closure edge k k j)
    (and_from (closure edge k i k) (closure edge k k j) a b)

-- a path to k, and one from k, over vertices below k
to_k : (edge : ℕ → ℕ → Bool) (k i : ℕ) → closure edge (suc k) i k ≡ true → closure edge k i k ≡ true
to_k edge k i h = elim (or_cases (closure edge k i k) (closure edge k i k && closure edge k k k) h)
    [ inl a ↦ a | inr b ↦ (and_parts (closure edge k i k) (closure edge k k k) b).0 ]

from_k : (edge : ℕ → ℕ → Bool) (k j : ℕ) → closure edge (suc k) k j ≡ true → closure edge k k j ≡ true
from_k edge k j h = elim (or_cases (closure edge k k j) (closure edge k k k && closure edge k k j) h)
    [ inl a ↦ a | inr b ↦ (and_parts (closure edge k k k) (closure edge k k j) b).1 ]

pub closure_joins : (edge : ℕ → ℕ → Bool) (k m i j : ℕ) → m < k → closure edge k i m ≡ true → closure edge k m j ≡ true
    → closure edge k i j ≡ true
closure_joins edge zero m i j l a b = absurd (omega arith)
closure_joins edge (suc k) m i j l a b =
    elim (cases_eq m k) [
      | inl same ↦
          closure_over edge k i j (to_k edge k i (subst (λ x. closure edge (suc k) i x ≡ true) same a))
          (from_k edge k j (subst (λ x. closure edge (suc k) x j ≡ true) same b))
      | inr other ↦
          (let less : m < k = omega arith in
          elim (or_cases (closure edge k i m) (closure edge k i k && closure edge k k m) a) [
            | inl a1 ↦
                elim (or_cases (closure edge k m j) (closure edge k m k && closure edge k k j) b) [
                  | inl b1 ↦ closure_more edge k i j (closure_joins edge k m i j less a1 b1)
                  | inr b2 ↦
                      (let p = and_parts (closure edge k m k) (closure edge k k j) b2 in
                      closure_over edge k i j (closure_joins edge k m i k less a1 p.0) p.1)
                ]
            | inr a2 ↦
                (let q = and_parts (closure edge k i k) (closure edge k k m) a2 in
                elim (or_cases (closure edge k m j) (closure edge k m k && closure edge k k j) b) [
                  | inl b1 ↦ closure_over edge k i j q.0 (closure_joins edge k m k j less q.1 b1)
                  | inr b2 ↦ closure_over edge k i j q.0 (and_parts (closure edge k m k) (closure edge k k j) b2).1
                ])
          ])
    ]

pub closure_id : (edge : ℕ → ℕ → Bool) (k i : ℕ) → closure edge k i i ≡ true
closure_id edge zero i = or_left (nat_eq i i) (edge i i) (eq-eqb i i refl)
closure_id edge (suc k) i = closure_more edge k i i (closure_id edge k i)

pub closure_one : (edge : ℕ → ℕ → Bool) (k i j : ℕ) → edge i j ≡ true → closure edge k i j ≡ true
closure_one edge zero i j h = or_right (nat_eq i j) (edge i j) h
closure_one edge (suc k) i j h = closure_more edge k i j (closure_one edge k i j h)

pub below_some : (t : ℕ → Bool) (n : ℕ) → some_below t n ≡ true → (i : ℕ) × (i < n) × (t i ≡ true)
below_some t zero h = absurd (both_ways false refl h)
below_some t (suc n) h =
    elim (or_cases (t n) (some_below t n) h) [
      | inl now ↦ (n, omega arith, now)
      | inr later ↦ (let r = below_some t n later in (r.0, omega (arith, r.1), r.2))
    ]

pub some_is_below : (t : ℕ → Bool) (n i : ℕ) → i < n → t i ≡ true → some_below t n ≡ true
some_is_below t zero i l h = absurd (omega arith)
some_is_below t (suc n) i l h =
    elim (cases_eq i n) [
      | inl same ↦ or_left (t n) (some_below t n) (subst (λ x. t x ≡ true) same h)
      | inr other ↦ or_right (t n) (some_below t n) (some_is_below t n i (omega arith) h)
    ]
