-- How far the search comes in two lists of events.
use Rattle.std.proofs.Common.{ℕ, suc, ◌≡◌, List, [], ◌∷◌, ◌++◌, refl, inl, inr}
use Rattle.std.specs.Prelude.{◌==◌}
use Rattle.std.proofs.lemmas.Bool.{cases_Bool}
use Rattle.derivations.specs.System.{System, Event, Count, Number, Found, Status, Going, TooManyDerivations}
use Rattle.derivations.specs.System.{TooManyStates, FoundAt, status_after}

-- a status, and what comes after it if the search goes on
abbrev pub resumed : {R : Type 0} → System R → ℕ → Status R → List (Event R) → Status R
resumed s most (Going c) es = status_after s most c es
resumed s most TooManyDerivations es = TooManyDerivations
resumed s most TooManyStates es = TooManyStates
resumed s most (FoundAt d) es = FoundAt d

pub status_append : {R : Type 0} (s : System R) (most c : ℕ) (xs ys : List (Event R))
    → status_after s most c (xs ++ ys) ≡ resumed s most (status_after s most c xs) ys
status_append s most c [] ys = refl
status_append s most c (Count ∷ xs) ys =
    elim (cases_Bool (suc c == most)) [
      | inl yes' ↦ rw yes' refl
      | inr no' ↦ rw no' (status_append s most (suc c) xs ys)
    ]
status_append s most c (Number d ∷ xs) ys =
    elim (cases_Bool (s.above d)) [ inl yes' ↦ rw yes' refl | inr no' ↦ rw no' (status_append s most c xs ys) ]
status_append s most c (Found d ∷ xs) ys = refl
