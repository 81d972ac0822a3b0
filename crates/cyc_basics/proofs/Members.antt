-- What stands at a place is in a set, and a set has at most MOST_POSITIONS positions.
use Rattle.std.proofs.Common.{◌≡◌, ℕ, zero, suc, [], ◌∷◌, ◌+◌, ◌<◌, ◌≤◌, inl, inr, List, true, false, arith, Some, None}
use Rattle.std.proofs.Common.{slice_get, length, refl, ap, subst, nat_eq, eqb-true}
use Rattle.std.specs.Prelude.{slice_index}
use Rattle.std.specs.List.Sorted.{IsStrictlyIncreasing}
use Rattle.std.proofs.lemmas.Bool.{both_ways, or_cases, or_left, or_right, eq-eqb}
use Rattle.std.proofs.lemmas.Option.{slice_get_within, slice_get-get_or}
use Rattle.cyc_basics.specs.Sets.{IsPositionSet, has}
use Rattle.cyc_basics.specs.declared.limits.TheConstants.{MOST_POSITIONS}

-- what is in the set stands at a place
pub has_at : (xs : List ℕ) (q : ℕ) → has xs q ≡ true → (k : ℕ) × (slice_get xs k ≡ Some q)
has_at [] q h = absurd (both_ways false refl h)
has_at (x ∷ xs) q h =
    elim (or_cases (nat_eq x q) (has xs q) h) [
      | inl e ↦ (0, ap Some (eqb-true x q e))
      | inr m ↦ (let r = has_at xs q m in (suc r.0, r.1))
    ]

-- what stands at a place is in the set
pub at_has : (xs : List ℕ) (k q : ℕ) → slice_get xs k ≡ Some q → has xs q ≡ true
at_has [] k q h = absurd (let e : None ≡ Some q = h in cc)
at_has (x ∷ xs) zero q h = or_left (nat_eq x q) (has xs q)
    (eq-eqb x q (let e : Some x ≡ Some q = h in let e' : x ≡ q = cc in e'))
at_has (x ∷ xs) (suc k) q h = or_right (nat_eq x q) (has xs q) (at_has xs k q h)

-- positions that are below MOST_POSITIONS at each place are so
pub below_from : (positions : List ℕ)
    → ((k q : ℕ) → k < length positions → slice_get positions k ≡ Some q → q < MOST_POSITIONS)
    → (q : ℕ) → has positions q ≡ true → q < MOST_POSITIONS
below_from positions h q m = let k = has_at positions q m in h k.0 q (slice_get_within positions k.0 q k.1) k.1

-- a position of a list that rises strictly is at least its place
rising_place : (xs : List ℕ) → IsStrictlyIncreasing xs → (k : ℕ) → k < length xs → k ≤ slice_index xs k
rising_place xs rising zero l = omega arith
rising_place xs rising (suc k) l =
    let next : k + 1 ≡ suc k = omega arith in
    let less : slice_index xs k < slice_index xs (suc k) = subst (λ m. slice_index xs k < slice_index xs m) next
    (rising k (omega (arith, l))) in
    let before : k ≤ slice_index xs k = rising_place xs rising k (omega (arith, l)) in
    omega (arith, before, less)

-- a set of positions has at most MOST_POSITIONS
pub set_short : (xs : List ℕ) → IsPositionSet xs → length xs ≤ MOST_POSITIONS
set_short [] s = omega arith
set_short (x ∷ xs) s =
    let l : length xs < length (x ∷ xs) = omega arith in
    let there : slice_get (x ∷ xs) (length xs) ≡ Some (slice_index (x ∷ xs) (length xs)) = slice_get-get_or (x ∷ xs)
    (length xs) 0 l in
    omega (arith, rising_place (x ∷ xs) s.0 (length xs) l, s.1 _ (at_has (x ∷ xs) (length xs) _ there))

pub has_first : (q : ℕ) (qs : List ℕ) → has (q ∷ qs) q ≡ true
has_first q qs = or_left (nat_eq q q) (has qs q) (eq-eqb q q refl)

-- a list rises from k to what follows, where all of that is above k
pub rises_from : (k : ℕ) (qs : List ℕ) → ((q : ℕ) → has qs q ≡ true → suc k ≤ q) → 0 + 1 < length (k ∷ qs)
    → slice_index (k ∷ qs) 0 < slice_index (k ∷ qs) (0 + 1)
rises_from k [] above l = absurd (omega (arith, l))
rises_from k (q ∷ qs) above l = let a = above q (has_first q qs) in omega (arith, a)
