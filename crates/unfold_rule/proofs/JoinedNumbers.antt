-- Numbers in a formula that stands after other atoms: those that stop after the greatest fail the limit where the real
-- ones do.
use Rattle.std.proofs.Common.{◌≡◌, ℕ, ◌+◌, ◌≤◌, min, List, map, refl, sym, ap, subst, arith}
use Rattle.heap_formula.specs.declared.terms.Term.{Term}
use Rattle.heap_formula.specs.declared.terms.Term.TheVariants.{Nil, Univ, Exist}
use Rattle.heap_formula.specs.declared.atoms.Pure.{Pure}
use Rattle.heap_formula.specs.declared.atoms.Spatial.{Spatial}
use Rattle.heap_formula.specs.Symbolic.{SymbolicHeap}
use Rattle.heap_formula.specs.Substitution.{in_pure, in_spatial, in_heap, case_term, opened_term}
use Rattle.rule_table.specs.Table.{right_term}
use Rattle.rule_table.specs.Answer.{has_numbers, number_bound}
use Rattle.heap_formula.specs.Fresh.{pure_numbers, spatial_numbers, heap_numbers}
use Rattle.rule_table.specs.Changes.{changed}
use Rattle.rule_table.specs.declared.changes.Change.TheVariants.{Left, Right, Opened}
use Rattle.rule_table.proofs.Saturates.{pures_stop, spatials_stop, pures_pass, spatials_pass, max_of-append}
use Rattle.unfold_rule.specs.Joining.{joined}
use Rattle.cyc_basics.proofs.Tests.{le_same}

module _ (ps : List Pure) (xs : List Spatial) (f g : Term → Term)
    (same : (t : Term) → number_bound (g t) ≤ 65535 → f t ≡ g t)
    (over : (t : Term) → number_bound (f t) ≤ 65535 → number_bound (g t) ≤ 65535) where
  pub joined_same : (b : SymbolicHeap) → heap_numbers (joined ps xs (in_heap g b)) ≤ 65535 → in_heap f b ≡ in_heap g b
  joined_same b h =
      let l = max_of-append pure_numbers ps (map (in_pure g) b.pure) in
      let m = max_of-append spatial_numbers xs (map (in_spatial g) b.spatial) in
      let p = pures_stop f g same over b.pure (omega arith) in
      let s = spatials_stop f g same over b.spatial (omega arith) in
      λ i. record { pure = p i; spatial = s i }

  joined_over : (b : SymbolicHeap) → heap_numbers (joined ps xs (in_heap f b)) ≤ 65535
      → heap_numbers (joined ps xs (in_heap g b)) ≤ 65535
  joined_over b h =
      let l = max_of-append pure_numbers ps (map (in_pure g) b.pure) in
      let m = max_of-append spatial_numbers xs (map (in_spatial g) b.spatial) in
      let l' = max_of-append pure_numbers ps (map (in_pure f) b.pure) in
      let m' = max_of-append spatial_numbers xs (map (in_spatial f) b.spatial) in
      let p = pures_pass f g same over b.pure (omega arith) in
      let s = spatials_pass f g same over b.spatial (omega arith) in omega arith

  pub joined_numbers : (b : SymbolicHeap) → has_numbers (joined ps xs (in_heap f b))
      ≡ has_numbers (joined ps xs (in_heap g b))
  joined_numbers b =
      le_same _ _ _ _ (joined_over b) (λ h. subst (λ (c : SymbolicHeap). heap_numbers (joined ps xs c) ≤ 65535)
      (sym (joined_same b h)) h)

-- ---- the program's terms and the real ones

pub left_same : (args : List Term) (n : ℕ) (t : Term) → number_bound (case_term args n t) ≤ 65535
    → changed (Left args n) t ≡ case_term args n t
left_same args n Nil h = refl
left_same args n (Univ j) h = refl
left_same args n (Exist j) h = let e : min (n + j) 65535 ≡ n + j = omega arith in ap Univ e

pub left_over : (args : List Term) (n : ℕ) (t : Term) → number_bound (changed (Left args n) t) ≤ 65535
    → number_bound (case_term args n t) ≤ 65535
left_over args n Nil h = h
left_over args n (Univ j) h = h
left_over args n (Exist j) h = omega arith

pub right_same : (args : List Term) (n : ℕ) (t : Term) → number_bound (right_term args n t) ≤ 65535
    → changed (Right args n) t ≡ right_term args n t
right_same args n Nil h = refl
right_same args n (Univ j) h = refl
right_same args n (Exist j) h = let e : min (n + j) 65535 ≡ n + j = omega arith in ap Exist e

pub right_over : (args : List Term) (n : ℕ) (t : Term) → number_bound (changed (Right args n) t) ≤ 65535
    → number_bound (right_term args n t) ≤ 65535
right_over args n Nil h = h
right_over args n (Univ j) h = h
right_over args n (Exist j) h = omega arith

pub opened_same : (n : ℕ) (t : Term) → number_bound (opened_term n t) ≤ 65535 → changed (Opened n) t ≡ opened_term n t
opened_same n Nil h = refl
opened_same n (Univ j) h = refl
opened_same n (Exist j) h = let e : min (n + j) 65535 ≡ n + j = omega arith in ap Univ e

pub opened_over : (n : ℕ) (t : Term) → number_bound (changed (Opened n) t) ≤ 65535
    → number_bound (opened_term n t) ≤ 65535
opened_over n Nil h = h
opened_over n (Univ j) h = h
opened_over n (Exist j) h = omega arith
