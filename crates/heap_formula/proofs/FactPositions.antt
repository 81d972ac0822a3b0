-- The members of a list without one of them.
use Rattle.std.proofs.Common.{◌≡◌, ℕ, zero, suc, List, [], ◌∷◌, Some, slice_get}
use Rattle.heap_formula.specs.Positions.{without, before}

pub get_without : {X : Type 0} (k : ℕ) (xs : List X) (i : ℕ) (x : X) → slice_get (without k xs) i ≡ Some x
    → slice_get xs (before k i) ≡ Some x
get_without k [] i x e = absurd cc
get_without zero (y ∷ xs) i x e = e
get_without (suc k) (y ∷ xs) zero x e = e
get_without (suc k) (y ∷ xs) (suc i) x e = get_without k xs i x e
