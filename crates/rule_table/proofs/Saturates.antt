-- Terms whose numbers stop after the greatest stand for the real ones where the limit is kept.
use Rattle.std.proofs.Common.{◌≡◌, ℕ, ◌≤◌, max, List, [], ◌∷◌, ◌++◌, map, refl, arith}
use Rattle.heap_formula.specs.declared.terms.Term.{Term}
use Rattle.heap_formula.specs.declared.atoms.Pure.{Pure}
use Rattle.heap_formula.specs.declared.atoms.Pure.TheVariants.{Eq, Neq}
use Rattle.heap_formula.specs.declared.atoms.Spatial.{Spatial}
use Rattle.heap_formula.specs.declared.atoms.Spatial.TheVariants.{Cell, Pred}
use Rattle.heap_formula.specs.Words.{max_of}
use Rattle.heap_formula.specs.Substitution.{in_pure, in_spatial}
use Rattle.rule_table.specs.Answer.{number_bound}
use Rattle.heap_formula.specs.Fresh.{terms_numbers, pure_numbers, spatial_numbers}

module _ (f g : Term → Term) (same : (t : Term) → number_bound (g t) ≤ 65535 → f t ≡ g t)
    (over : (t : Term) → number_bound (f t) ≤ 65535 → number_bound (g t) ≤ 65535) where
  terms_same : (ts : List Term) → terms_numbers (map g ts) ≤ 65535 → map f ts ≡ map g ts
  terms_same [] h = refl
  terms_same (t ∷ ts) h =
      let a = same t (omega arith) in
      let b = terms_same ts (omega arith) in λ i. a i ∷ b i

  terms_over : (ts : List Term) → terms_numbers (map f ts) ≤ 65535 → terms_numbers (map g ts) ≤ 65535
  terms_over [] h = h
  terms_over (t ∷ ts) h = let a = over t (omega arith) in let b = terms_over ts (omega arith) in omega arith

  pure_same : (x : Pure) → pure_numbers (in_pure g x) ≤ 65535 → in_pure f x ≡ in_pure g x
  pure_same (Eq t u) h = let a = same t (omega arith) in let b = same u (omega arith) in λ i. Eq (a i) (b i)
  pure_same (Neq t u) h = let a = same t (omega arith) in let b = same u (omega arith) in λ i. Neq (a i) (b i)

  pure_over : (x : Pure) → pure_numbers (in_pure f x) ≤ 65535 → pure_numbers (in_pure g x) ≤ 65535
  pure_over (Eq t u) h = let a = over t (omega arith) in let b = over u (omega arith) in omega arith
  pure_over (Neq t u) h = let a = over t (omega arith) in let b = over u (omega arith) in omega arith

  spatial_same : (x : Spatial) → spatial_numbers (in_spatial g x) ≤ 65535 → in_spatial f x ≡ in_spatial g x
  spatial_same (Cell t ts) h = let a = same t (omega arith) in let b = terms_same ts (omega arith) in
      λ i. Cell (a i) (b i)
  spatial_same (Pred p ts) h = let b = terms_same ts h in λ i. Pred p (b i)

  spatial_over : (x : Spatial) → spatial_numbers (in_spatial f x) ≤ 65535 → spatial_numbers (in_spatial g x) ≤ 65535
  spatial_over (Cell t ts) h = let a = over t (omega arith) in let b = terms_over ts (omega arith) in omega arith
  spatial_over (Pred p ts) h = terms_over ts h

  each_same : {X : Type 0} (F G : X → X) (n : X → ℕ) → ((x : X) → n (G x) ≤ 65535 → F x ≡ G x) → (xs : List X)
      → max_of (map n (map G xs)) ≤ 65535 → map F xs ≡ map G xs
  each_same F G n s [] h = refl
  each_same F G n s (x ∷ xs) h = let a = s x (omega arith) in let b = each_same F G n s xs (omega arith) in
      λ i. a i ∷ b i

  each_over : {X : Type 0} (F G : X → X) (n : X → ℕ) → ((x : X) → n (F x) ≤ 65535 → n (G x) ≤ 65535) → (xs : List X)
      → max_of (map n (map F xs)) ≤ 65535 → max_of (map n (map G xs)) ≤ 65535
  each_over F G n s [] h = h
  each_over F G n s (x ∷ xs) h = let a = s x (omega arith) in let b = each_over F G n s xs (omega arith) in omega arith

  pub pures_stop : (xs : List Pure) → max_of (map pure_numbers (map (in_pure g) xs)) ≤ 65535
      → map (in_pure f) xs ≡ map (in_pure g) xs
  pures_stop = each_same (in_pure f) (in_pure g) pure_numbers pure_same

  pub spatials_stop : (xs : List Spatial) → max_of (map spatial_numbers (map (in_spatial g) xs)) ≤ 65535
      → map (in_spatial f) xs ≡ map (in_spatial g) xs
  spatials_stop = each_same (in_spatial f) (in_spatial g) spatial_numbers spatial_same

  pub pures_pass : (xs : List Pure) → max_of (map pure_numbers (map (in_pure f) xs)) ≤ 65535
      → max_of (map pure_numbers (map (in_pure g) xs)) ≤ 65535
  pures_pass = each_over (in_pure f) (in_pure g) pure_numbers pure_over

  pub spatials_pass : (xs : List Spatial) → max_of (map spatial_numbers (map (in_spatial f) xs)) ≤ 65535
      → max_of (map spatial_numbers (map (in_spatial g) xs)) ≤ 65535
  spatials_pass = each_over (in_spatial f) (in_spatial g) spatial_numbers spatial_over

pub max_of-append : {X : Type 0} (n : X → ℕ) (xs ys : List X)
    → max_of (map n (xs ++ ys)) ≡ max (max_of (map n xs)) (max_of (map n ys))
max_of-append n [] ys = omega arith
max_of-append n (x ∷ xs) ys = let r = max_of-append n xs ys in omega arith
