-- The members of a list that is made of parts come from the parts.
use Rattle.std.proofs.Common.{◌≡◌, ℕ, suc, ◌+◌, Bool, true, false, cond, List, [], ◌∷◌, Option, Some, None, refl, subst}
use Rattle.std.proofs.Common.{arith}
use Rattle.std.specs.Prelude.{IfSome, slice_get, if◌then◌else◌}
use Rattle.std.specs.List.{filter, flat_map}
use Rattle.heap_formula.specs.Words.{Each}
use Rattle.search_moves.specs.Places.{each_from, each_place, each_of, if_some, first_line, first_from, first_place}
use Rattle.search_moves.specs.Places.{first_that}
use Rattle.cyc_basics.specs.Words.{or_else}
use Rattle.heap_formula.proofs.AllMembers.{each_any, each_append}
use Rattle.search_moves.specs.Offering.{unless_some}

-- what holds of a line, and of those after it
pub beside : {A B : Type 0} → A → B → A × B
beside a b = (a, b)

module _ {X : Type 0} (P : X → Type 0) where
  pub each_if : (b : Bool) (xs : List X) → Each P xs → Each P (if b then xs else [])
  each_if true xs a = a
  each_if false xs a = tt

  pub each_unless : (b : Bool) (xs : List X) → Each P xs → Each P (if b then [] else xs)
  each_unless true xs a = tt
  each_unless false xs a = a

  kept : (b : Bool) (x : X) (xs : List X) → (b ≡ true → P x) → Each P xs → Each P (cond b (x ∷ xs) xs)
  kept true x xs p a = (p refl, a)
  kept false x xs p a = a

  pub each_filter : (test : X → Bool) (xs : List X) → Each P xs → Each P (filter test xs)
  each_filter test [] a = tt
  each_filter test (x ∷ xs) a = kept (test x) x (filter test xs) (λ _. a.0) (each_filter test xs a.1)

  passed : (b : Bool) (x : X) (xs : List X) → (b ≡ true → P x) → Each P xs → Each P (if b then x ∷ [] else xs)
  passed true x xs p a = (p refl, tt)
  passed false x xs p a = a

  pub each_first_that : (test : X → Bool) (xs : List X) → Each P xs → Each P (first_that test xs)
  each_first_that test [] a = tt
  each_first_that test (x ∷ xs) a = passed (test x) x (first_that test xs) (λ _. a.0) (each_first_that test xs a.1)

  pub each_or_else : (xs ys : List X) → Each P xs → Each P ys → Each P (or_else xs ys)
  each_or_else [] ys a b = b
  each_or_else (x ∷ xs) ys a b = a

  pub each_unless_some : {Y : Type 0} (ys : List Y) (xs : List X) → Each P xs → Each P (unless_some ys xs)
  each_unless_some [] xs a = a
  each_unless_some (y ∷ ys) xs a = tt

  pub each_first_line : (lines : List (List X)) → Each (Each P) lines → Each P (first_line lines)
  each_first_line [] a = tt
  each_first_line (xs ∷ lines) a = each_or_else xs (first_line lines) a.0 (each_first_line lines a.1)

  pub each_if_some : (o : Option X) → IfSome o P → Each P (if_some o)
  each_if_some None a = tt
  each_if_some (Some x) a = (a, tt)

  pub some_if : (b : Bool) (o : Option X) → IfSome o P → IfSome (if b then o else None) P
  some_if true o h = h
  some_if false o h = tt

-- what a filter keeps passes
pub each_passes : {X : Type 0} (test : X → Bool) (xs : List X) → Each (λ y. test y ≡ true) (filter test xs)
each_passes test [] = tt
each_passes test (x ∷ xs) = kept (λ y. test y ≡ true) (test x) x (filter test xs) (λ e. e) (each_passes test xs)

pub each_first_passes : {X : Type 0} (test : X → Bool) (xs : List X) → Each (λ y. test y ≡ true) (first_that test xs)
each_first_passes test [] = tt
each_first_passes test (x ∷ xs) = passed (λ y. test y ≡ true) (test x) x (first_that test xs) (λ e. e)
    (each_first_passes test xs)

module _ {X Y : Type 0} (P : Y → Type 0) where
  pub each_each_of : (Q : X → Type 0) (f : X → List Y) (xs : List X) → Each Q xs → ((x : X) → Q x → Each P (f x))
      → Each P (each_of f xs)
  each_each_of Q f [] a h = tt
  each_each_of Q f (x ∷ xs) a h = each_append P (f x) (each_of f xs) (h x a.0) (each_each_of Q f xs a.1 h)

  pub each_of_any : (f : X → List Y) (xs : List X) → ((x : X) → Each P (f x)) → Each P (each_of f xs)
  each_of_any f xs h = each_each_of (λ x. Unit {0}) f xs (each_any (λ x. Unit {0}) (λ x. tt) xs) (λ x _. h x)

  pub each_flat_map : (Q : X → Type 0) (f : X → List Y) (xs : List X) → Each Q xs → ((x : X) → Q x → Each P (f x))
      → Each P (flat_map f xs)
  each_flat_map Q f [] a h = tt
  each_flat_map Q f (x ∷ xs) a h = each_append P (f x) (flat_map f xs) (h x a.0) (each_flat_map Q f xs a.1 h)

  from_places : (f : ℕ → X → List Y) (k : ℕ) (xs : List X)
      → ((i n : ℕ) (x : X) → n ≡ k + i → slice_get xs i ≡ Some x → Each P (f n x)) → Each P (each_from f k xs)
  from_places f k [] h = tt
  from_places f k (x ∷ xs) h =
      each_append P (f k x) (each_from f (suc k) xs) (h 0 k x (omega arith) refl)
      (from_places f (suc k) xs (λ i n y is e. h (suc i) n y (omega (arith, is)) e))

  -- by the members and their places
  pub each_placed : (f : ℕ → X → List Y) (xs : List X) → ((i : ℕ) (x : X) → slice_get xs i ≡ Some x → Each P (f i x))
      → Each P (each_place f xs)
  each_placed f xs h = from_places f 0 xs (λ i n x is e. let same : i ≡ n = omega (arith, is) in
      subst (λ m. Each P (f m x)) same (h i x e))

  -- wherever they stand
  pub each_anywhere : (f : ℕ → X → List Y) (xs : List X) → ((i : ℕ) (x : X) → Each P (f i x)) → Each P (each_place f xs)
  each_anywhere f xs h = each_placed f xs (λ i x e. h i x)

  first_from_placed : (f : ℕ → X → List Y) (k : ℕ) (xs : List X)
      → ((i n : ℕ) (x : X) → n ≡ k + i → slice_get xs i ≡ Some x → Each P (f n x)) → Each P (first_from f k xs)
  first_from_placed f k [] h = tt
  first_from_placed f k (x ∷ xs) h =
      each_or_else P (f k x) (first_from f (suc k) xs) (h 0 k x (omega arith) refl)
      (first_from_placed f (suc k) xs (λ i n y is e. h (suc i) n y (omega (arith, is)) e))

  -- of the first place that gives something
  pub each_first_placed : (f : ℕ → X → List Y) (xs : List X)
      → ((i : ℕ) (x : X) → slice_get xs i ≡ Some x → Each P (f i x)) → Each P (first_place f xs)
  each_first_placed f xs h = first_from_placed f 0 xs
      (λ i n x is e. let same : i ≡ n = omega (arith, is) in subst (λ m. Each P (f m x)) same (h i x e))

  pub each_first_place : (f : ℕ → X → List Y) (xs : List X) → ((i : ℕ) (x : X) → Each P (f i x))
      → Each P (first_place f xs)
  each_first_place f xs h = each_first_placed f xs (λ i x e. h i x)
