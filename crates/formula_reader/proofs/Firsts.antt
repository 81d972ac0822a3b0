-- Lists of which nothing is found, and choices of which nothing comes.
use Rattle.std.proofs.Common.{◌≡◌, ℕ, zero, suc, ◌+◌, Bool, true, false, List, [], ◌∷◌, Option, Some, None, refl, subst}
use Rattle.std.proofs.Common.{arith}
use Rattle.std.specs.Prelude.{not, if◌then◌else◌, slice_get}
use Rattle.std.specs.List.{list_all}
use Rattle.std.specs.Option.{option_map, option_or}
use Rattle.std.proofs.lemmas.Bool.{and_from, and_parts}
use Rattle.heap_formula.specs.Words.{Each}
use Rattle.cyc_basics.proofs.Options.{neither_some}
use Rattle.formula_reader.specs.Excess.{first_of}

-- ---- tests of each member

pub each_passes : {X : Type 0} (p : X → Bool) (Q : X → Type 0) → ((x : X) → p x ≡ true → Q x) → (xs : List X)
    → list_all p xs ≡ true → Each Q xs
each_passes p Q one [] e = tt
each_passes p Q one (x ∷ xs) e = let b = and_parts (p x) (list_all p xs) e in (one x b.0, each_passes p Q one xs b.1)

pub all_pass : {X : Type 0} (p : X → Bool) (xs : List X) → Each (λ x. p x ≡ true) xs → list_all p xs ≡ true
all_pass p [] e = refl
all_pass p (x ∷ xs) e = and_from (p x) (list_all p xs) e.0 (all_pass p xs e.1)

-- ---- choices

pub not_chosen : {E : Type 0} (b : Bool) (e : E) (rest : Option E) → (if b then Some e else rest) ≡ None
    → (b ≡ false) × (rest ≡ None)
not_chosen true e rest h = absurd cc
not_chosen false e rest h = (refl, h)

pub none_chosen : {E : Type 0} (b : Bool) (e : E) (rest : Option E) → b ≡ false → rest ≡ None
    → (if b then Some e else rest) ≡ None
none_chosen true e rest h g = absurd cc
none_chosen false e rest h g = g

pub chosen_none : {E : Type 0} (b : Bool) (e : E) → (if b then None else Some e) ≡ None → b ≡ true
chosen_none true e h = refl
chosen_none false e h = absurd cc

pub none_where : {E : Type 0} (b : Bool) (e : E) → b ≡ true → (if b then None else Some e) ≡ None
none_where true e h = refl
none_where false e h = absurd cc

pub passed : (b : Bool) → not b ≡ false → b ≡ true
passed true e = refl
passed false e = absurd cc

pub not_failed : (b : Bool) → b ≡ true → not b ≡ false
not_failed true e = refl
not_failed false e = absurd cc

pub unmapped : {E F : Type 0} (g : E → F) (o : Option E) → option_map g o ≡ None → o ≡ None
unmapped g None e = refl
unmapped g (Some x) e = absurd cc

pub mapped_none : {E F : Type 0} (g : E → F) (o : Option E) → o ≡ None → option_map g o ≡ None
mapped_none g None e = refl
mapped_none g (Some x) e = absurd cc

pub both_none : {E : Type 0} (a b : Option E) → a ≡ None → b ≡ None → option_or a b ≡ None
both_none None b e h = h
both_none (Some x) b e h = absurd cc

-- ---- nothing is found of a list

module _ {X E : Type 0} (f : ℕ → X → Option E) where
  pub none_of_each : (n : ℕ) (xs : List X) → first_of f n xs ≡ None → (i : ℕ) (x : X) → slice_get xs i ≡ Some x
      → f (n + i) x ≡ None
  none_of_each n [] e i x at = absurd cc
  none_of_each n (y ∷ xs) e zero x at =
      let here : y ≡ x = cc in
      let same : n ≡ n + 0 = omega arith in
      subst (λ (m : ℕ). f m x ≡ None) same (subst (λ (z : X). f n z ≡ None) here
      (neither_some (f n y) (first_of f (n + 1) xs) e).0)
  none_of_each n (y ∷ xs) e (suc i) x at =
      let next : n + 1 + i ≡ n + suc i = omega arith in
      subst (λ (m : ℕ). f m x ≡ None) next (none_of_each (n + 1) xs
      (neither_some (f n y) (first_of f (n + 1) xs) e).1 i x at)

  pub each_of_none : (n : ℕ) (xs : List X) → ((i : ℕ) (x : X) → slice_get xs i ≡ Some x → f (n + i) x ≡ None)
      → first_of f n xs ≡ None
  each_of_none n [] h = refl
  each_of_none n (x ∷ xs) h =
      let here : n + 0 ≡ n = omega arith in
      let first = subst (λ (m : ℕ). f m x ≡ None) here (h 0 x refl) in
      both_none (f n x) (first_of f (n + 1) xs) first (each_of_none (n + 1) xs (λ i y at. (
      let next : n + suc i ≡ n + 1 + i = omega arith in
      subst (λ (m : ℕ). f m y ≡ None) next (h (suc i) y at))))
