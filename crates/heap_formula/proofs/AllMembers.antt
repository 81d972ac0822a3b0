-- What holds of each member of a list.
use Rattle.std.proofs.Common.{◌≡◌, ℕ, zero, suc, ◌+◌, ◌<◌, Bool, true, false, List, [], ◌∷◌, ◌++◌, map, take, drop}
use Rattle.std.proofs.Common.{get_or, Some, slice_get, subst, arith}
use Rattle.std.specs.Prelude.{slice_set}
use Rattle.std.specs.List.{range_with_len}
use Rattle.std.specs.Coded.{×_prop, Unit-prop}
use Rattle.heap_formula.specs.Words.{Each}
use Rattle.heap_formula.specs.Positions.{without, chosen, chosen_step}

pub each_imply : {X : Type 0} (P Q : X → Type 0) → ((x : X) → P x → Q x) → (xs : List X) → Each P xs → Each Q xs
each_imply P Q f [] e = tt
each_imply P Q f (x ∷ xs) e = (f x e.0, each_imply P Q f xs e.1)

pub each_any : {X : Type 0} (P : X → Type 0) → ((x : X) → P x) → (xs : List X) → Each P xs
each_any P f [] = tt
each_any P f (x ∷ xs) = (f x, each_any P f xs)

pub each_both : {X : Type 0} (P Q : X → Type 0) (xs : List X) → Each P xs → Each Q xs → Each (λ x. P x × Q x) xs
each_both P Q [] a b = tt
each_both P Q (x ∷ xs) a b = ((a.0, b.0), each_both P Q xs a.1 b.1)

pub each_append : {X : Type 0} (P : X → Type 0) (xs ys : List X) → Each P xs → Each P ys → Each P (xs ++ ys)
each_append P [] ys a b = b
each_append P (x ∷ xs) ys a b = (a.0, each_append P xs ys a.1 b)

pub each_last : {X : Type 0} (P : X → Type 0) (xs : List X) (x : X) → Each P xs → P x → Each P (xs ++ x ∷ [])
each_last P xs x e p = each_append P xs (x ∷ []) e (p, tt)

pub each_front : {X : Type 0} (P : X → Type 0) (xs ys : List X) → Each P (xs ++ ys) → Each P xs
each_front P [] ys e = tt
each_front P (x ∷ xs) ys e = (e.0, each_front P xs ys e.1)

pub each_back : {X : Type 0} (P : X → Type 0) (xs ys : List X) → Each P (xs ++ ys) → Each P ys
each_back P [] ys e = e
each_back P (x ∷ xs) ys e = each_back P xs ys e.1

pub each_mapped : {X Y : Type 0} (P : Y → Type 0) (f : X → Y) (xs : List X) → Each (λ x. P (f x)) xs → Each P (map f xs)
each_mapped P f [] e = tt
each_mapped P f (x ∷ xs) e = (e.0, each_mapped P f xs e.1)

pub each_made : {X Y : Type 0} (f : X → Y) (P : X → Type 0) (Q : Y → Type 0) → ((x : X) → P x → Q (f x)) → (xs : List X)
    → Each P xs → Each Q (map f xs)
each_made f P Q one [] e = tt
each_made f P Q one (x ∷ xs) e = (one x e.0, each_made f P Q one xs e.1)

pub each_at : {X : Type 0} (P : X → Type 0) (xs : List X) (i : ℕ) (x : X) → slice_get xs i ≡ Some x → Each P xs → P x
each_at P [] i x at e = absurd cc
each_at P (y ∷ xs) zero x at e = let same : y ≡ x = cc in subst P same e.0
each_at P (y ∷ xs) (suc i) x at e = each_at P xs i x at e.1

pub each_or : {X : Type 0} (P : X → Type 0) (xs : List X) (d : X) → Each P xs → P d → (i : ℕ) → P (get_or xs i d)
each_or P [] d e p i = p
each_or P (x ∷ xs) d e p zero = e.0
each_or P (x ∷ xs) d e p (suc i) = each_or P xs d e.1 p i

pub each_take : {X : Type 0} (P : X → Type 0) (i : ℕ) (xs : List X) → Each P xs → Each P (take i xs)
each_take P zero xs e = tt
each_take P (suc i) [] e = tt
each_take P (suc i) (x ∷ xs) e = (e.0, each_take P i xs e.1)

pub each_drop : {X : Type 0} (P : X → Type 0) (i : ℕ) (xs : List X) → Each P xs → Each P (drop i xs)
each_drop P zero xs e = e
each_drop P (suc i) [] e = tt
each_drop P (suc i) (x ∷ xs) e = each_drop P i xs e.1

pub each_without : {X : Type 0} (P : X → Type 0) (i : ℕ) (xs : List X) → Each P xs → Each P (without i xs)
each_without P zero [] e = tt
each_without P (suc i) [] e = tt
each_without P zero (x ∷ xs) e = e.1
each_without P (suc i) (x ∷ xs) e = (e.0, each_without P i xs e.1)

pub each_set : {X : Type 0} (P : X → Type 0) (xs : List X) (k : ℕ) (x : X) → P x → Each P xs → Each P (slice_set xs k x)
each_set P [] k x p e = tt
each_set P (y ∷ xs) zero x p e = (p, e.1)
each_set P (y ∷ xs) (suc k) x p e = (e.0, each_set P xs k x p e.1)

pub each_chosen : {X : Type 0} (P : X → Type 0) (xs : List X) (p : ℕ → Bool) → Each P xs → Each P (chosen p xs)
each_chosen P [] p e = tt
each_chosen {X = X} P (x ∷ xs) p e = step (p 0) (chosen (λ k. p (suc k)) xs) (each_chosen P xs (λ k. p (suc k)) e.1)
  where
    step : (b : Bool) (ys : List X) → Each P ys → Each P (chosen_step b x ys)
    step true ys rest = (e.0, rest)
    step false ys rest = rest

pub range_below : (m n : ℕ) → Each (λ k. k < m + n) (range_with_len m n)
range_below m zero = tt
range_below m (suc n) = (
  omega arith,
  each_imply (λ k. k < (m + 1) + n) (λ k. k < m + suc n) (λ k lt. omega arith)
      (range_with_len (m + 1) n) (range_below (m + 1) n),
)

pub each_prop : {X : Type 0} (P : X → Type 0) → ((x : X) → IsProp (P x)) → (xs : List X) → IsProp (Each P xs)
each_prop P p [] = Unit-prop
each_prop P p (x ∷ xs) = ×_prop (p x) (each_prop P p xs)
