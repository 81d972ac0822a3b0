-- The places of predicate atoms are a set of positions.
use Rattle.std.proofs.Common.{◌≡◌, ℕ, zero, suc, ◌+◌, ◌<◌, ◌≤◌, List, [], ◌∷◌, length, arith, true, false, nat_eq, refl}
use Rattle.std.proofs.Common.{subst, inl, inr, eqb-true, Some, slice_get}
use Rattle.std.specs.Prelude.{slice_index}
use Rattle.std.specs.List.Sorted.{IsStrictlyIncreasing}
use Rattle.std.proofs.lemmas.Bool.{or_cases, or_left, or_right, eq-eqb, both_ways}
use Rattle.fo_formula.specs.declared.atoms.FoAtom.{FoAtom}
use Rattle.fo_formula.specs.declared.atoms.FoAtom.TheVariants.{Equation, Predicate}
use Rattle.fo_formula.specs.Words.{Word}
use Rattle.trace_pairs.specs.Graph.{IsPositionSet, has}
use Rattle.fo_logic.specs.FirstOrder.{predicate_places}
use Rattle.cyc_basics.proofs.Members.{rises_from}

-- each place is at least the first, and below the end
places_within : (k : ℕ) (xs : List FoAtom) (q : ℕ) → has (predicate_places k xs) q ≡ true
    → (k ≤ q) × (q < k + length xs)
places_within k [] q h = absurd (both_ways false refl h)
places_within k (Equation u v ∷ xs) q h = let r = places_within (suc k) xs q h in
    (omega (arith, r.0), omega (arith, r.1))
places_within k (Predicate p ts ∷ xs) q h =
    elim (or_cases (nat_eq k q) (has (predicate_places (suc k) xs) q) h) [
      | inl e ↦ (let same : k ≡ q = eqb-true k q e in (omega (arith, same), omega (arith, same)))
      | inr m ↦ (let r = places_within (suc k) xs q m in (omega (arith, r.0), omega (arith, r.1)))
    ]

-- the places rise
places_rise : (k : ℕ) (xs : List FoAtom) → IsStrictlyIncreasing (predicate_places k xs)
places_rise k [] i l = absurd (omega (arith, l))
places_rise k (Equation u v ∷ xs) i l = places_rise (suc k) xs i l
places_rise k (Predicate p ts ∷ xs) zero l = rises_from k (predicate_places (suc k) xs)
    (λ q h. (places_within (suc k) xs q h).0) l
places_rise k (Predicate p ts ∷ xs) (suc i) l =
    let next : suc (i + 1) ≡ suc i + 1 = omega arith in
    subst (λ m. slice_index (k ∷ predicate_places (suc k) xs) (suc i) < slice_index (k ∷ predicate_places (suc k) xs) m)
    next (places_rise (suc k) xs i (omega (arith, l)))

-- the places of a list of at most 32 atoms
pub places_set : (xs : List FoAtom) → length xs ≤ 32 → IsPositionSet (predicate_places 0 xs)
places_set xs few = (places_rise 0 xs, λ q h. omega (arith, (places_within 0 xs q h).1, few))

-- the place of a predicate atom is there
place_there : (n : ℕ) (xs : List FoAtom) (k : ℕ) → (q : ℕ) × (ts : List Word) × (slice_get xs k ≡ Some (Predicate q ts))
    → has (predicate_places n xs) (n + k) ≡ true
place_there n [] k p = let e = p.2 in cc
place_there n (Equation u v ∷ xs) zero p = let e = p.2 in cc
place_there n (Equation u v ∷ xs) (suc k) p = let e : suc n + k ≡ n + suc k = omega arith in
    subst (λ m. has (predicate_places (suc n) xs) m ≡ true) e (place_there (suc n) xs k p)
place_there n (Predicate q ts ∷ xs) zero p = let e : n ≡ n + 0 = omega arith in
    or_left (nat_eq n (n + 0)) (has (predicate_places (suc n) xs) (n + 0)) (eq-eqb n (n + 0) e)
place_there n (Predicate q ts ∷ xs) (suc k) p =
    let e : suc n + k ≡ n + suc k = omega arith in
    or_right (nat_eq n (n + suc k)) (has (predicate_places (suc n) xs) (n + suc k))
    (subst (λ m. has (predicate_places (suc n) xs) m ≡ true) e (place_there (suc n) xs k p))

pub place_of : (xs : List FoAtom) (k : ℕ) → (q : ℕ) × (ts : List Word) × (slice_get xs k ≡ Some (Predicate q ts))
    → has (predicate_places 0 xs) k ≡ true
place_of xs k p = let e : 0 + k ≡ k = omega arith in
    subst (λ m. has (predicate_places 0 xs) m ≡ true) e (place_there 0 xs k p)
