-- What may be offered stays so in lists that change at one end.
use Rattle.std.proofs.Common.{◌≡◌, List, [], ◌∷◌, ◌++◌, sym, subst}
use Rattle.cyc_basics.specs.Words.{Each}

pub all_end : {R : Type 0} (P : R → Type 0) (xs ys : List R) (x : R) → Each P xs → P x → ys ≡ xs ++ x ∷ [] → Each P ys
all_end {R} P xs ys x all' p e = subst (Each P) (sym e) (put xs all')
  where
    put : (zs : List R) → Each P zs → Each P (zs ++ x ∷ [])
    put [] h = (p, tt)
    put (z ∷ zs) h = (h.0, put zs h.1)

pub all_parts : {R : Type 0} (P : R → Type 0) (xs ys : List R) (x : R) → Each P ys → ys ≡ xs ++ x ∷ [] → Each P xs × P x
all_parts {R} P xs ys x all' e = parts xs (subst (Each P) e all')
  where
    parts : (zs : List R) → Each P (zs ++ x ∷ []) → Each P zs × P x
    parts [] h = (tt, h.0)
    parts (z ∷ zs) h = ((h.0, (parts zs h.1).0), (parts zs h.1).1)

pub all_next : {R : Type 0} (P : R → Type 0) (xs ys : List R) (x : R) → Each P ys → ys ≡ x ∷ xs → P x × Each P xs
all_next P xs ys x all' e = subst (Each P) e all'

-- where any reason may be offered, all are
pub all_so : {R : Type 0} (P : R → Type 0) → ((r : R) → P r) → (xs : List R) → Each P xs
all_so P each [] = tt
all_so P each (x ∷ xs) = (each x, all_so P each xs)
