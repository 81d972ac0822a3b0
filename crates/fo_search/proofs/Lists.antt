-- What holds of each member of lists that are made of others.
use Rattle.std.proofs.Common.{◌≡◌, ℕ, zero, suc, Bool, true, false, cond, List, [], ◌∷◌, refl, subst, inl, inr}
use Rattle.std.specs.Prelude.{replicate}
use Rattle.std.specs.List.{filter, flat_map, zip}
use Rattle.heap_formula.specs.Words.{Each, OneOf}
use Rattle.back_links.specs.Listing.{selections}
use Rattle.back_links.proofs.Selecting.{IsSelection, each_selection}
use Rattle.search_moves.specs.Places.{each_from, each_place, first_line, first_that}
use Rattle.cyc_basics.specs.Words.{or_else}
use Rattle.heap_formula.proofs.AllMembers.{each_append}

pub each_kept : {X : Type 0} (p : X → Bool) (xs : List X) → Each (λ x. p x ≡ true) (filter p xs)
each_kept p [] = tt
each_kept p (x ∷ xs) = branch (p x) refl (each_kept p xs)
  where
    branch : (b : Bool) → p x ≡ b → Each (λ y. p y ≡ true) (filter p xs)
        → Each (λ y. p y ≡ true) (cond b (x ∷ filter p xs) (filter p xs))
    branch true e rest = (e, rest)
    branch false e rest = rest

pub each_filter : {X : Type 0} (P : X → Type 0) (p : X → Bool) (xs : List X) → Each P xs → Each P (filter p xs)
each_filter P p [] h = tt
each_filter P p (x ∷ xs) h = branch (p x) (each_filter P p xs h.1)
  where
    branch : (b : Bool) → Each P (filter p xs) → Each P (cond b (x ∷ filter p xs) (filter p xs))
    branch true rest = (h.0, rest)
    branch false rest = rest

pub each_first_kept : {X : Type 0} (p : X → Bool) (xs : List X) → Each (λ x. p x ≡ true) (first_that p xs)
each_first_kept p [] = tt
each_first_kept p (x ∷ xs) = branch (p x) refl (each_first_kept p xs)
  where
    branch : (b : Bool) → p x ≡ b → Each (λ y. p y ≡ true) (first_that p xs)
        → Each (λ y. p y ≡ true) (cond b (x ∷ []) (first_that p xs))
    branch true e rest = (e, tt)
    branch false e rest = rest

pub each_first : {X : Type 0} (P : X → Type 0) (p : X → Bool) (xs : List X) → Each P xs → Each P (first_that p xs)
each_first P p [] h = tt
each_first P p (x ∷ xs) h = branch (p x) (each_first P p xs h.1)
  where
    branch : (b : Bool) → Each P (first_that p xs) → Each P (cond b (x ∷ []) (first_that p xs))
    branch true rest = (h.0, tt)
    branch false rest = rest

pub each_else : {X : Type 0} (P : X → Type 0) (xs ys : List X) → Each P xs → Each P ys → Each P (or_else xs ys)
each_else P [] ys a b = b
each_else P (x ∷ xs) ys a b = a

pub each_line : {X : Type 0} (P : X → Type 0) (lines : List (List X)) → Each (Each P) lines → Each P (first_line lines)
each_line P [] h = tt
each_line P (xs ∷ lines) h = each_else P xs (first_line lines) h.0 (each_line P lines h.1)

each_given : {X Y : Type 0} (P : Y → Type 0) (f : ℕ → X → List Y) → ((k : ℕ) (x : X) → Each P (f k x))
    → (k : ℕ) (xs : List X) → Each P (each_from f k xs)
each_given P f h k [] = tt
each_given P f h k (x ∷ xs) = each_append P (f k x) (each_from f (suc k) xs) (h k x) (each_given P f h (suc k) xs)

pub each_offered : {X Y : Type 0} (P : Y → Type 0) (f : ℕ → X → List Y) → ((k : ℕ) (x : X) → Each P (f k x))
    → (xs : List X) → Each P (each_place f xs)
each_offered P f h xs = each_given P f h 0 xs

pub each_joined : {X Y : Type 0} (P : Y → Type 0) (Q : X → Type 0) (f : X → List Y) → ((x : X) → Q x → Each P (f x))
    → (xs : List X) → Each Q xs → Each P (flat_map f xs)
each_joined P Q f h [] a = tt
each_joined P Q f h (x ∷ xs) a = each_append P (f x) (flat_map f xs) (h x a.0) (each_joined P Q f h xs a.1)

each_one : {X : Type 0} (P : X → Type 0) (x : X) (xs : List X) → OneOf (λ y. y ≡ x) xs → Each P xs → P x
each_one P x [] o h = absurd o
each_one P x (y ∷ ys) (inl e) h = subst P e h.0
each_one P x (y ∷ ys) (inr o) h = each_one P x ys o h.1

each_selected : {X : Type 0} (P : X → Type 0) (values : List X) → Each P values → (k : ℕ) (xs : List X)
    → IsSelection (replicate k values) xs → Each P xs
each_selected P values h zero [] s = tt
each_selected P values h zero (x ∷ xs) s = absurd s
each_selected P values h (suc k) [] s = absurd s
each_selected P values h (suc k) (x ∷ xs) s = (each_one P x values s.0 h, each_selected P values h k xs s.1)

-- the members of lists of so many of the values
pub each_chosen : {X : Type 0} (P : X → Type 0) (values : List X) → Each P values → (k : ℕ)
    → Each (Each P) (selections (replicate k values))
each_chosen P values h k = each_selection (Each P) (replicate k values) (each_selected P values h k)

pub each_zipped : {X : Type 0} (N : ℕ → Type 0) (P : X → Type 0) (ns : List ℕ) (xs : List X) → Each N ns → Each P xs →
    Each (λ (pair : ℕ × X). N pair.0 × P pair.1) (zip ns xs)
each_zipped N P [] xs a h = tt
each_zipped N P (n ∷ ns) [] a h = tt
each_zipped N P (n ∷ ns) (x ∷ xs) a h = ((a.0, h.0), each_zipped N P ns xs a.1 h.1)
