-- Place by place the same atoms and pairs are chosen.
use Rattle.std.proofs.Common.{◌≡◌, ℕ, suc, ◌+◌, Bool, true, false, cond, List, [], ◌∷◌, refl, ap, ◌∙◌, subst, arith}
use Rattle.heap_formula.specs.declared.terms.Term.{Term}
use Rattle.heap_formula.specs.declared.atoms.Spatial.{Spatial}
use Rattle.heap_formula.specs.declared.atoms.Spatial.TheVariants.{Cell, Pred}
use Rattle.heap_formula.specs.declared.judgements.Pair.{Pair}
use Rattle.heap_formula.specs.Positions.{chosen, chosen_step, chosen_place, place_step, pairs_from}
use Rattle.rule_table.specs.Choosing.{chosen_from, chosen_pairs}

shifted : (p : ℕ → Bool) (i : ℕ) → ◌≡◌ {A = ℕ → Bool} (λ k. p (suc i + k)) (λ k. p (i + suc k))
shifted p i = λ r k. p (one_later i k r)
  where
    one_later : (i k : ℕ) → suc i + k ≡ i + suc k
    one_later i k = omega arith

pub chosen_from_is : {X : Type 0} (p : ℕ → Bool) (i : ℕ) (xs : List X) → chosen_from p i xs ≡ chosen (λ k. p (i + k)) xs
chosen_from_is p i [] = refl
chosen_from_is p i (x ∷ xs) =
    let e : i ≡ i + 0 = omega arith in
    let r = chosen_from_is p (suc i) xs ∙ ap (λ q. chosen q xs) (shifted p i) in
    λ m. chosen_step (p (e m)) x (r m)

pub chosen_is : {X : Type 0} (p : ℕ → Bool) (xs : List X) → chosen_from p 0 xs ≡ chosen p xs
chosen_is p xs = chosen_from_is p 0 xs ∙ (λ m. chosen (λ k. p (none_before k m)) xs)
  where
    none_before : (k : ℕ) → 0 + k ≡ k
    none_before k = omega arith

step : (b c : Bool) (x : Spatial) (i n : ℕ) (old f : ℕ → ℕ) (cs : List Spatial) (here more : List Pair) → b ≡ c
    → ((k : ℕ) → old (n + k) ≡ i + place_step c f k) → (((k : ℕ) → old (suc n + k) ≡ suc i + f k)
    → here ≡ pairs_from old (suc n) cs) → (((k : ℕ) → old (n + k) ≡ suc i + f k) → more ≡ pairs_from old n cs)
    → (q : ℕ) (ts : List Term) → x ≡ Pred q ts → cond b (record { old = i; new = n; progress = false } ∷ here) more
    ≡ pairs_from old n (chosen_step c (Pred q ts) cs)
step true true x i n old f cs here more same h yes' no' q ts is =
    let z : n ≡ n + 0 = omega arith in
    let first : i ≡ old n = (let a : old (n + 0) ≡ i + 0 = h 0 in let b = ap old z in omega arith) in
    let rest = yes' (λ k. let a : old (n + suc k) ≡ i + suc (f k) = h (suc k) in
    let e : suc n + k ≡ n + suc k = omega arith in let b = ap old e in omega arith) in
    λ m. record { old = first m; new = n; progress = false } ∷ rest m
step false false x i n old f cs here more same h yes' no' q ts is =
    no' (λ k. let a : old (n + k) ≡ i + suc (f k) = h k in omega arith)
step true false x i n old f cs here more same h yes' no' q ts is = cc
step false true x i n old f cs here more same h yes' no' q ts is = cc

cell_step : (b c : Bool) (i n : ℕ) (old f : ℕ → ℕ) (t : Term) (ts : List Term) (cs : List Spatial)
    (here more : List Pair) → b ≡ c → ((k : ℕ) → old (n + k) ≡ i + place_step c f k)
    → (((k : ℕ) → old (suc n + k) ≡ suc i + f k) → here ≡ pairs_from old (suc n) cs)
    → (((k : ℕ) → old (n + k) ≡ suc i + f k) → more ≡ pairs_from old n cs)
    → cond b here more ≡ pairs_from old n (chosen_step c (Cell t ts) cs)
cell_step true true i n old f t ts cs here more same h yes' no' =
    yes' (λ k. let a : old (n + suc k) ≡ i + suc (f k) = h (suc k) in let e : suc n + k ≡ n + suc k = omega arith in
    let b = ap old e in omega arith)
cell_step false false i n old f t ts cs here more same h yes' no' =
    no' (λ k. let a : old (n + k) ≡ i + suc (f k) = h k in omega arith)
cell_step true false i n old f t ts cs here more same h yes' no' = cc
cell_step false true i n old f t ts cs here more same h yes' no' = cc

pairs_chosen : (p : ℕ → Bool) (i n : ℕ) (xs : List Spatial) (old : ℕ → ℕ)
    → ((k : ℕ) → old (n + k) ≡ i + chosen_place (λ m. p (i + m)) xs k)
    → chosen_pairs p i n xs ≡ pairs_from old n (chosen (λ m. p (i + m)) xs)
pairs_chosen p i n [] old h = refl
pairs_chosen p i n (Cell t ts ∷ xs) old h =
    let e : i ≡ i + 0 = omega arith in
    cell_step (p i) (p (i + 0)) i n old (chosen_place (λ m. p (i + suc m)) xs) t ts (chosen (λ m. p (i + suc m)) xs)
    (chosen_pairs p (suc i) (suc n) xs) (chosen_pairs p (suc i) n xs) (ap p e) h
    (subst (λ (r : ℕ → Bool). ((k : ℕ) → old (suc n + k) ≡ suc i + chosen_place r xs k)
    → chosen_pairs p (suc i) (suc n) xs ≡ pairs_from old (suc n) (chosen r xs)) (shifted p i)
    (pairs_chosen p (suc i) (suc n) xs old))
    (subst (λ (r : ℕ → Bool). ((k : ℕ) → old (n + k) ≡ suc i + chosen_place r xs k)
    → chosen_pairs p (suc i) n xs ≡ pairs_from old n (chosen r xs)) (shifted p i) (pairs_chosen p (suc i) n xs old))
pairs_chosen p i n (Pred q ts ∷ xs) old h =
    let e : i ≡ i + 0 = omega arith in
    step (p i) (p (i + 0)) (Pred q ts) i n old (chosen_place (λ m. p (i + suc m)) xs) (chosen (λ m. p (i + suc m)) xs)
    (chosen_pairs p (suc i) (suc n) xs) (chosen_pairs p (suc i) n xs) (ap p e) h
    (subst (λ (r : ℕ → Bool). ((k : ℕ) → old (suc n + k) ≡ suc i + chosen_place r xs k)
    → chosen_pairs p (suc i) (suc n) xs ≡ pairs_from old (suc n) (chosen r xs)) (shifted p i)
    (pairs_chosen p (suc i) (suc n) xs old))
    (subst (λ (r : ℕ → Bool). ((k : ℕ) → old (n + k) ≡ suc i + chosen_place r xs k)
    → chosen_pairs p (suc i) n xs ≡ pairs_from old n (chosen r xs)) (shifted p i) (pairs_chosen p (suc i) n xs old))
    q ts refl

pub pairs_are : (p : ℕ → Bool) (xs : List Spatial)
    → chosen_pairs p 0 0 xs ≡ pairs_from (chosen_place p xs) 0 (chosen p xs)
pairs_are p xs =
    let r = pairs_chosen p 0 0 xs (chosen_place (λ m. p (0 + m)) xs)
    (λ k. let e : 0 + k ≡ k = omega arith in ap (chosen_place (λ m. p (0 + m)) xs) e
    ∙ zero_more (chosen_place (λ m. p (0 + m)) xs k)) in
    subst (λ (q : ℕ → Bool). chosen_pairs p 0 0 xs ≡ pairs_from (chosen_place q xs) 0 (chosen q xs))
    (λ m k. p (nothing_before k m)) r
  where
    zero_more : (k : ℕ) → k ≡ 0 + k
    zero_more k = omega arith

    nothing_before : (k : ℕ) → 0 + k ≡ k
    nothing_before k = omega arith
