-- What is seen as it is.
use Rattle.std.proofs.Common.{◌≡◌, List, [], ◌∷◌, refl, ap}
use Rattle.std.specs.Prelude.{map}

pub items-same : {X : Type 0} (xs : List X) → map (λ (x : X). x) xs ≡ xs
items-same [] = refl
items-same {X = X} (x ∷ xs) = ap (λ (ys : List X). x ∷ ys) (items-same xs)
