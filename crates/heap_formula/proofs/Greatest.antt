-- The greatest number of a list, and a bound on each.
use Rattle.std.proofs.Common.{ℕ, ◌≤◌, List, [], ◌∷◌, map, arith}
use Rattle.heap_formula.specs.Words.{Each, max_of}

pub each_below : {X : Type 0} (f : X → ℕ) (m : ℕ) (xs : List X) → max_of (map f xs) ≤ m → Each (λ x. f x ≤ m) xs
each_below f m [] h = tt
each_below f m (x ∷ xs) h = (omega arith, each_below f m xs (omega arith))

pub below_each : {X : Type 0} (f : X → ℕ) (m : ℕ) (xs : List X) → Each (λ x. f x ≤ m) xs → max_of (map f xs) ≤ m
below_each f m [] e = omega arith
below_each f m (x ∷ xs) e = let here = e.0 in let rest = below_each f m xs e.1 in omega arith

pub greatest_le : {X : Type 0} (f g : X → ℕ) → ((x : X) → f x ≤ g x) → (xs : List X)
    → max_of (map f xs) ≤ max_of (map g xs)
greatest_le f g h [] = omega arith
greatest_le f g h (x ∷ xs) = let here = h x in let rest = greatest_le f g h xs in omega arith
