-- Numbers of fresh variables that stop after the greatest stand for the real ones where the limit is kept.
use Rattle.std.proofs.Common.{◌≡◌, ℕ, zero, suc, ◌+◌, ◌≤◌, min, Bool, true, false, cond, List, [], ◌∷◌, ◌++◌, map, refl}
use Rattle.std.proofs.Common.{ap, ◌∙◌, arith, add-one}
use Rattle.std.specs.Prelude.{nat_eq}
use Rattle.heap_formula.specs.declared.terms.Term.{Term}
use Rattle.heap_formula.specs.declared.terms.Term.TheVariants.{Nil, Univ, Exist}
use Rattle.heap_formula.specs.declared.atoms.Pure.TheVariants.{Eq}
use Rattle.heap_formula.specs.declared.atoms.Spatial.TheVariants.{Cell}
use Rattle.heap_formula.specs.Symbolic.{SymbolicHeap}
use Rattle.heap_formula.specs.Substitution.{in_pure, in_spatial}
use Rattle.rule_table.specs.Answer.{number_bound}
use Rattle.heap_formula.specs.Fresh.{terms_numbers, pure_numbers, spatial_numbers, heap_numbers, variables_from}
use Rattle.rule_table.specs.ExecTable.{renamed, renamed_term, with_atom, with_cell}
use Rattle.rule_table.proofs.Saturates.{pures_stop, spatials_stop, pures_pass, spatials_pass, max_of-append}
use Rattle.symbolic_exec.specs.States.{variables_up_to}

-- ---- the variable for the old value

renamed_same : (x n : ℕ) (t : Term) → number_bound (renamed_term x n t) ≤ 65535
    → renamed_term x (min n 65535) t ≡ renamed_term x n t
renamed_same x n Nil h = refl
renamed_same x n (Exist j) h = refl
renamed_same x n (Univ j) h = by (nat_eq j x) h
  where
    by : (b : Bool) → number_bound (cond b (Univ n) (Univ j)) ≤ 65535
        → cond b (Univ (min n 65535)) (Univ j) ≡ cond b (Univ n) (Univ j)
    by true h = let e : min n 65535 ≡ n = omega arith in ap Univ e
    by false h = refl

renamed_over : (x n : ℕ) (t : Term) → number_bound (renamed_term x (min n 65535) t) ≤ 65535
    → number_bound (renamed_term x n t) ≤ 65535
renamed_over x n Nil h = h
renamed_over x n (Exist j) h = h
renamed_over x n (Univ j) h = by (nat_eq j x) h
  where
    by : (b : Bool) → number_bound (cond b (Univ (min n 65535)) (Univ j)) ≤ 65535
        → number_bound (cond b (Univ n) (Univ j)) ≤ 65535
    by true h = omega arith
    by false h = h

-- ---- the fields of a new cell

pub fields_same : (n k : ℕ) → terms_numbers (variables_from n k) ≤ 65535 → variables_up_to n k ≡ variables_from n k
fields_same n zero h = refl
fields_same n (suc k) h =
    let e : min n 65535 ≡ n = omega arith in
    let r = fields_same (suc n) k (omega arith) in λ i. Univ (e i) ∷ r i

pub fields_over : (n k : ℕ) → terms_numbers (variables_up_to n k) ≤ 65535 → terms_numbers (variables_from n k) ≤ 65535
fields_over n zero h = h
fields_over n (suc k) h = let r = fields_over (suc n) k (omega arith) in omega arith

one_more_suc : (n k : ℕ) → variables_up_to n (suc k) ≡ variables_up_to n k ++ Univ (min (n + k) 65535) ∷ []
one_more_suc n zero = let e : n ≡ n + 0 = omega arith in ap (λ m. Univ (min m 65535) ∷ []) e
one_more_suc n (suc k) =
    let e : suc n + k ≡ n + suc k = omega arith in
    ap (λ us. Univ (min n 65535) ∷ us) (one_more_suc (suc n) k)
    ∙ ap (λ m. Univ (min n 65535) ∷ (variables_up_to (suc n) k ++ Univ (min m 65535) ∷ [])) e

-- one more at the end
pub one_more_variable : (n k : ℕ) → variables_up_to n (k + 1) ≡ variables_up_to n k ++ Univ (min (n + k) 65535) ∷ []
one_more_variable n k = rw add-one (one_more_suc n k)

-- ---- states

module _ (x n : ℕ) (a : SymbolicHeap) where
  abbrev f : Term → Term
  f = renamed_term x (min n 65535)

  abbrev g : Term → Term
  g = renamed_term x n

  abbrev pub set_to : ℕ → Term → SymbolicHeap
  set_to m t = with_atom (renamed x m a) (Eq (Univ x) (renamed_term x m t))

  pub set_same : (t : Term) → heap_numbers (set_to n t) ≤ 65535 → set_to (min n 65535) t ≡ set_to n t
  set_same t h =
      let l = max_of-append pure_numbers (map (in_pure g) a.pure) (Eq (Univ x) (g t) ∷ []) in
      let p = pures_stop f g (renamed_same x n) (renamed_over x n) a.pure (omega arith) in
      let s = spatials_stop f g (renamed_same x n) (renamed_over x n) a.spatial (omega arith) in
      let q = renamed_same x n t (omega arith) in λ i. record { pure = p i ++ Eq (Univ x) (q i) ∷ []; spatial = s i }

  pub set_over : (t : Term) → heap_numbers (set_to (min n 65535) t) ≤ 65535 → heap_numbers (set_to n t) ≤ 65535
  set_over t h =
      let l = max_of-append pure_numbers (map (in_pure g) a.pure) (Eq (Univ x) (g t) ∷ []) in
      let m = max_of-append pure_numbers (map (in_pure f) a.pure) (Eq (Univ x) (f t) ∷ []) in
      let p = pures_pass f g (renamed_same x n) (renamed_over x n) a.pure (omega arith) in
      let s = spatials_pass f g (renamed_same x n) (renamed_over x n) a.spatial (omega arith) in
      let q = renamed_over x n t (omega arith) in omega arith

  abbrev pub new_with : ℕ → List Term → SymbolicHeap
  new_with m us = with_cell (renamed x m a) x us

  pub new_same : (k : ℕ) → heap_numbers (new_with n (variables_from (n + 1) k)) ≤ 65535
      → new_with (min n 65535) (variables_up_to (n + 1) k) ≡ new_with n (variables_from (n + 1) k)
  new_same k h =
      let l = max_of-append spatial_numbers (map (in_spatial g) a.spatial)
      (Cell (Univ x) (variables_from (n + 1) k) ∷ []) in
      let p = pures_stop f g (renamed_same x n) (renamed_over x n) a.pure (omega arith) in
      let s = spatials_stop f g (renamed_same x n) (renamed_over x n) a.spatial (omega arith) in
      let q = fields_same (n + 1) k (omega arith) in
      λ i. record { pure = p i; spatial = s i ++ Cell (Univ x) (q i) ∷ [] }

  pub new_over : (k : ℕ) → heap_numbers (new_with (min n 65535) (variables_up_to (n + 1) k)) ≤ 65535
      → heap_numbers (new_with n (variables_from (n + 1) k)) ≤ 65535
  new_over k h =
      let l = max_of-append spatial_numbers (map (in_spatial g) a.spatial)
      (Cell (Univ x) (variables_from (n + 1) k) ∷ []) in
      let m = max_of-append spatial_numbers (map (in_spatial f) a.spatial)
      (Cell (Univ x) (variables_up_to (n + 1) k) ∷ []) in
      let p = pures_pass f g (renamed_same x n) (renamed_over x n) a.pure (omega arith) in
      let s = spatials_pass f g (renamed_same x n) (renamed_over x n) a.spatial (omega arith) in
      let q = fields_over (n + 1) k (omega arith) in omega arith
