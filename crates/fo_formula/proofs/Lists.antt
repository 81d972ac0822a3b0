-- What holds of each member, or of some member, of a list.
use Rattle.std.proofs.Common.{List, [], ◌∷◌, ◌++◌, inl, inr, ◌⊎◌}
use Rattle.heap_formula.specs.Words.{OneOf}

pub one_append : {X : Type 0} (P : X → Type 0) (xs ys : List X) → OneOf P (xs ++ ys) → OneOf P xs ⊎ OneOf P ys
one_append P [] ys o = inr o
one_append P (x ∷ xs) ys (inl a) = inl (inl a)
one_append P (x ∷ xs) ys (inr o) = elim (one_append P xs ys o) [ inl a ↦ inl (inr a) | inr b ↦ inr b ]
