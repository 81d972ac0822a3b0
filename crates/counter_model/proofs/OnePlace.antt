-- There is one first place that is not constructive.
use Rattle.std.proofs.Common.{◌≡◌, ℕ, zero, suc, List, [], ◌∷◌, refl, ap}
use Rattle.heap_formula.specs.Symbolic.{SymbolicHeap}
use Rattle.heap_formula.specs.Definitions.{Definition}
use Rattle.heap_formula.specs.Words.{Each}
use Rattle.model_check.specs.declared.places.Place.{Place}
use Rattle.model_check.specs.declared.places.Place.TheVariants.{Case, Ask}
use Rattle.model_check.specs.Constructive.{IsConstructive, AreConstructive}
use Rattle.model_check.specs.FirstPlaces.{IsFirstBad, IsFirstBadCase, IsPlace}

none_bad : (xs : List SymbolicHeap) (i : ℕ) → Each IsConstructive xs → IsFirstBad xs i → ⊥
none_bad [] i a b = b
none_bad (x ∷ xs) zero a b = b a.0
none_bad (x ∷ xs) (suc i) a b = none_bad xs i a.1 b.1

one_bad : (xs : List SymbolicHeap) (i j : ℕ) → IsFirstBad xs i → IsFirstBad xs j → i ≡ j
one_bad [] i j a b = absurd a
one_bad (x ∷ xs) zero zero a b = refl
one_bad (x ∷ xs) zero (suc j) a b = absurd (a b.0)
one_bad (x ∷ xs) (suc i) zero a b = absurd (b a.0)
one_bad (x ∷ xs) (suc i) (suc j) a b = ap suc (one_bad xs i j a.1 b.1)

none_bad_case : (ds : List Definition) (p c : ℕ) → AreConstructive ds → IsFirstBadCase ds p c → ⊥
none_bad_case [] p c a b = b
none_bad_case (d ∷ ds) zero c a b = none_bad d.cases c a.0 b
none_bad_case (d ∷ ds) (suc p) c a b = none_bad_case ds p c a.1 b.1

one_predicate : (ds : List Definition) (p c q e : ℕ) → IsFirstBadCase ds p c → IsFirstBadCase ds q e → p ≡ q
one_predicate [] p c q e a b = absurd a
one_predicate (d ∷ ds) zero c zero e a b = refl
one_predicate (d ∷ ds) zero c (suc q) e a b = absurd (none_bad d.cases c b.0 a)
one_predicate (d ∷ ds) (suc p) c zero e a b = absurd (none_bad d.cases e a.0 b)
one_predicate (d ∷ ds) (suc p) c (suc q) e a b = ap suc (one_predicate ds p c q e a.1 b.1)

one_case : (ds : List Definition) (p c q e : ℕ) → IsFirstBadCase ds p c → IsFirstBadCase ds q e → c ≡ e
one_case [] p c q e a b = absurd a
one_case (d ∷ ds) zero c zero e a b = one_bad d.cases c e a b
one_case (d ∷ ds) zero c (suc q) e a b = absurd (none_bad d.cases c b.0 a)
one_case (d ∷ ds) (suc p) c zero e a b = absurd (none_bad d.cases e a.0 b)
one_case (d ∷ ds) (suc p) c (suc q) e a b = one_case ds p c q e a.1 b.1

pub one_place : (ds : List Definition) (asks : List SymbolicHeap) (x y : Place) → IsPlace ds asks x → IsPlace ds asks y
    → x ≡ y
one_place ds asks (Case p c) (Case q e) a b =
    let s = one_predicate ds p c q e a b in let t = one_case ds p c q e a b in λ i. Case (s i) (t i)
one_place ds asks (Case p c) (Ask d) a b = absurd (none_bad_case ds p c b.0 a)
one_place ds asks (Ask d) (Case q e) a b = absurd (none_bad_case ds q e a.0 b)
one_place ds asks (Ask d) (Ask e) a b = ap Ask (one_bad asks d e a.1 b.1)

pub no_place : (ds : List Definition) (asks : List SymbolicHeap) (x : Place) → AreConstructive ds
    → Each IsConstructive asks → IsPlace ds asks x → ⊥
no_place ds asks (Case p c) a b k = none_bad_case ds p c a k
no_place ds asks (Ask d) a b k = none_bad asks d b k.1
