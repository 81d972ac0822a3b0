-- Each turn of a search in depth leaves less to do.
use Rattle.std.proofs.Common.{◌≡◌, ℕ, zero, suc, ◌+◌, ◌-◌, ◌<◌, Bool, true, false, List, [], ◌∷◌, ◌++◌, Some, slice_get}
use Rattle.std.proofs.Common.{slice_set, Vec, Global, refl, ap, arith}
use Rattle.buchi_inclusion.specs.declared.product.Transition.{Transition}
use Rattle.buchi_inclusion.specs.Work.{unmarked, edges_at, unfound_work, way_work}

-- a mark that is set leaves one less
pub mark_set : (marks : List Bool) (i : ℕ) → slice_get marks i ≡ Some false
    → unmarked marks ≡ suc (unmarked (slice_set marks i true))
mark_set [] i unset = cc
mark_set (true ∷ marks) zero unset = cc
mark_set (false ∷ marks) zero unset = refl
mark_set (true ∷ marks) (suc i) unset = mark_set marks i unset
mark_set (false ∷ marks) (suc i) unset = ap suc (mark_set marks i unset)

-- a state that gets its number is found, and was not before
pub number_set : (rows : List (Vec Transition Global)) (numbers : List ℕ) (i n : ℕ) → slice_get numbers i ≡ Some 0
    → 0 < n → unfound_work rows numbers ≡ suc (edges_at rows i) + unfound_work rows (slice_set numbers i n)
number_set rows [] i n at new = cc
number_set [] (m ∷ numbers) zero zero at new = absurd (omega arith)
number_set [] (zero ∷ numbers) zero (suc n) at new = omega arith
number_set [] (suc m ∷ numbers) zero (suc n) at new = cc
number_set [] (zero ∷ numbers) (suc i) n at new = let rest = number_set [] numbers i n at new in omega (arith, rest)
number_set [] (suc m ∷ numbers) (suc i) n at new = number_set [] numbers i n at new
number_set (row ∷ rows) (m ∷ numbers) zero zero at new = absurd (omega arith)
number_set (row ∷ rows) (zero ∷ numbers) zero (suc n) at new = refl
number_set (row ∷ rows) (suc m ∷ numbers) zero (suc n) at new = cc
number_set (row ∷ rows) (zero ∷ numbers) (suc i) n at new = let rest = number_set rows numbers i n at new in
    omega (arith, rest)
number_set (row ∷ rows) (suc m ∷ numbers) (suc i) n at new = number_set rows numbers i n at new

-- the last state of a way
pub way_end : (rows : List (Vec Transition Global)) (way : List (ℕ × ℕ)) (state edge : ℕ)
    → way_work rows (way ++ (state, edge) ∷ []) ≡ way_work rows way + suc (edges_at rows state - edge)
way_end rows [] state edge = omega arith
way_end rows ((s, e) ∷ way) state edge = let rest = way_end rows way state edge in omega (arith, rest)

-- a state that is entered comes on the way with all its edges
pub entered : (rows : List (Vec Transition Global)) (numbers more : List ℕ) (way on : List (ℕ × ℕ)) (state n : ℕ)
    → slice_get numbers state ≡ Some 0 → 0 < n → more ≡ slice_set numbers state n → on ≡ way ++ (state, 0) ∷ []
    → unfound_work rows more + way_work rows on ≡ unfound_work rows numbers + way_work rows way
entered rows numbers more way on state n new some set pushed =
    let a = number_set rows numbers state n new some in
    let b = ap (unfound_work rows) set in
    let c = ap (way_work rows) pushed in
    let d = way_end rows way state 0 in
    omega (arith, a, b, c, d)

-- a state that is left takes what was left of its edges along
pub left_state : (rows : List (Vec Transition Global)) (way less : List (ℕ × ℕ)) (state edge : ℕ)
    → way ≡ less ++ (state, edge) ∷ [] → way_work rows less < way_work rows way
left_state rows way less state edge popped =
    let c = ap (way_work rows) popped in
    let d = way_end rows less state edge in
    omega (arith, c, d)

-- an edge that is followed is not followed again
pub went_on : (rows : List (Vec Transition Global)) (way less on : List (ℕ × ℕ)) (state edge : ℕ)
    → edge < edges_at rows state → way ≡ less ++ (state, edge) ∷ [] → on ≡ less ++ (state, edge + 1) ∷ []
    → way_work rows on < way_work rows way
went_on rows way less on state edge more popped pushed =
    let c = ap (way_work rows) popped in
    let d = way_end rows less state edge in
    let e = ap (way_work rows) pushed in
    let f = way_end rows less state (edge + 1) in
    omega (arith, c, d, e, f, more)
