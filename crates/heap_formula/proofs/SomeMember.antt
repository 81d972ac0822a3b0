-- What holds of some member of a list.
use Rattle.std.proofs.Common.{◌≡◌, ℕ, zero, suc, inl, inr, List, [], ◌∷◌, ◌++◌, map, Some, slice_get, subst}
use Rattle.heap_formula.specs.Words.{OneOf}

pub one_front : {X : Type 0} (P : X → Type 0) (xs ys : List X) → OneOf P xs → OneOf P (xs ++ ys)
one_front P [] ys o = absurd o
one_front P (x ∷ xs) ys (inl p) = inl p
one_front P (x ∷ xs) ys (inr o) = inr (one_front P xs ys o)

pub one_last : {X : Type 0} (P : X → Type 0) (xs : List X) (x : X) → P x → OneOf P (xs ++ x ∷ [])
one_last P [] x p = inl p
one_last P (y ∷ ys) x p = inr (one_last P ys x p)

pub one_at : {X : Type 0} (P : X → Type 0) (xs : List X) (i : ℕ) (x : X) → slice_get xs i ≡ Some x → P x → OneOf P xs
one_at P [] i x at p = absurd cc
one_at P (y ∷ xs) zero x at p = let same : x ≡ y = cc in inl (subst P same p)
one_at P (y ∷ xs) (suc i) x at p = inr (one_at P xs i x at p)

pub one_unmap : {X Y : Type 0} (P : Y → Type 0) (Q : X → Type 0) (f : X → Y) → ((x : X) → P (f x) → Q x) → (xs : List X)
    → OneOf P (map f xs) → OneOf Q xs
one_unmap P Q f g [] o = o
one_unmap P Q f g (x ∷ xs) (inl a) = inl (g x a)
one_unmap P Q f g (x ∷ xs) (inr o) = inr (one_unmap P Q f g xs o)
