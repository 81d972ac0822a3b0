-- A list by its first or last member, behind another one, and mapped there and back.
use Rattle.std.proofs.Common.{◌≡◌, suc, ◌-◌, ◌≤◌, List, [], ◌∷◌, ◌++◌, length, get_or, take, drop, map, refl, ap, ◌⊎◌}
use Rattle.std.proofs.Common.{inl, inr, arith}
use Rattle.std.proofs.lemmas.List.{take_all}

pub split_last : {X : Type 0} (xs : List X) → (xs ≡ []) ⊎ ((ys : List X) × (y : X) × (xs ≡ ys ++ y ∷ []))
split_last [] = inl refl
split_last {X} (x ∷ xs) =
    elim (split_last xs) [
      | inl none ↦ inr ([], x, ap (λ (zs : List X). x ∷ zs) none)
      | inr some ↦ inr (x ∷ some.0, some.1, ap (λ (zs : List X). x ∷ zs) some.2)
    ]

pub first_and_rest : {X : Type 0} (xs : List X) (x : X) → 1 ≤ length xs → x ≡ get_or xs 0 x
    → xs ≡ x ∷ take (length xs - 1) (drop 1 xs)
first_and_rest [] x l at = absurd (omega arith)
first_and_rest (y ∷ ys) x l at =
    let e : x ≡ y = at in
    let n : suc (length ys) - 1 ≡ length ys = omega arith in
    rw (n, take_all (length ys) ys (omega arith), e) refl

pub map_back : {X Y : Type 0} (f : X → Y) (g : Y → X) → ((x : X) → g (f x) ≡ x) → (xs : List X) → map g (map f xs) ≡ xs
map_back f g one [] = refl
map_back f g one (x ∷ xs) = λ i. one x i ∷ map_back f g one xs i
