-- Members of a list are changed one after the other, where they stand.
use Rattle.std.proofs.Common.{◌≡◌, ℕ, zero, suc, ◌+◌, ◌≤◌, List, [], ◌∷◌, map, length, slice_index_or, slice_set}
use Rattle.std.proofs.Common.{refl, ap, ◌∙◌, subst, arith}

-- the members from place i on are changed
abbrev pub changed_from : (ℕ → ℕ) → ℕ → List ℕ → List ℕ
changed_from f zero xs = map f xs
changed_from f (suc i) [] = []
changed_from f (suc i) (x ∷ xs) = x ∷ changed_from f i xs

after_one : (f : ℕ → ℕ) (i : ℕ) (xs : List ℕ)
    → changed_from f (suc i) (slice_set xs i (f (slice_index_or xs i 0))) ≡ changed_from f i xs
after_one f zero [] = refl
after_one f (suc i) [] = refl
after_one f zero (x ∷ xs) = refl
after_one f (suc i) (x ∷ xs) = ap (λ ys. x ∷ ys) (after_one f i xs)

pub change_next : (f : ℕ → ℕ) (i y : ℕ) (xs all : List ℕ) → changed_from f i xs ≡ all
    → y ≡ f (slice_index_or xs i 0) → changed_from f (i + 1) (slice_set xs i y) ≡ all
change_next f i y xs all so_far e =
    let next : suc i ≡ i + 1 = omega arith in
    subst (λ k. changed_from f k (slice_set xs i y) ≡ all) next
    (ap (λ z. changed_from f (suc i) (slice_set xs i z)) e ∙ after_one f i xs ∙ so_far)

pub all_changed : (f : ℕ → ℕ) (i : ℕ) (xs : List ℕ) → length xs ≤ i → changed_from f i xs ≡ xs
all_changed f zero [] l = refl
all_changed f zero (x ∷ xs) l = absurd (omega (arith, l))
all_changed f (suc i) [] l = refl
all_changed f (suc i) (x ∷ xs) l = ap (λ ys. x ∷ ys) (all_changed f i xs (omega (arith, l)))
