-- A tree map's entries as a finite map, and what keeps it a heap.
use Rattle.std.proofs.Common.{◌≡◌, ℕ, ◌<◌, Bool, true, false, cond, ◌&&◌, ◌⊎◌, inl, inr, T, List, [], ◌∷◌, length}
use Rattle.std.proofs.Common.{Option, Some, None, refl, sym, ap, subst, ◌∙◌, arith}
use Rattle.std.specs.Prelude.{max}
use Rattle.std.specs.List.{AllByRecursion}
use Rattle.std.specs.List.Sorted.{IsStrictlySortedBy}
use Rattle.std.specs.declared.cmp.Ordering.TheVariants.{Less}
use Rattle.std.specs.Ordering.{nat_cmp, eq_by_cmp, is_eq, is_lt}
use Rattle.std.specs.Cmp.{nat_cmp_total, eq_by_cmp_equiv}
use Rattle.std.specs.FinMap.{entries, get, find, empty, from_entries, insert, remove, get-empty, get-from_entries}
use Rattle.std.specs.FinMap.{get-from_sorted, entries-from_sorted, get-insert, get-remove, same_map}
use Rattle.std.specs.FinMap.{nat_cmp-IsAntisymmetric}
use Rattle.std.specs.FinMap.Entries.{below_all, is_sorted}
use Rattle.std.specs.Map.{lookup, keys_of}
use Rattle.heap_formula.specs.Cells.{Cells, cell_at, IsHeap}
use Rattle.heap_formula.proofs.Insertions.{same_address}
pub use Rattle.heap_formula.proofs.StepLaws.{max_of-append}

pub find-lookup : {X : Type 0} (q : ℕ) (es : List (ℕ × X)) → find nat_cmp q es ≡ lookup (λ k. is_eq (nat_cmp q k)) es
find-lookup q [] = refl
find-lookup q (e ∷ es) = ap (cond (eq_by_cmp nat_cmp q e.0) (Some e.1)) (find-lookup q es)

pub at_is : {X : Type 0} (es : List (ℕ × X)) (q : ℕ)
    → get (from_entries {R = nat_cmp} es) q ≡ lookup (λ k. is_eq (nat_cmp q k)) es
at_is es q = get-from_entries nat_cmp_total es q ∙ find-lookup q es

pub put_is : {X : Type 0} (es fs : List (ℕ × X)) (k : ℕ) (v : X)
    → ((q : ℕ) → lookup (λ j. is_eq (nat_cmp q j)) fs ≡ cond (is_eq (nat_cmp k q)) (Some v)
    (lookup (λ j. is_eq (nat_cmp q j)) es)) → from_entries {R = nat_cmp} fs ≡ insert (from_entries es) k v
put_is es fs k v h =
    same_map nat_cmp_total nat_cmp-IsAntisymmetric _ _ (λ q.
    at_is fs q ∙ h q ∙ ap (λ b. cond b (Some v) (lookup (λ j. is_eq (nat_cmp q j)) es))
    ((eq_by_cmp_equiv nat_cmp_total).symm k q) ∙ ap (cond (eq_by_cmp nat_cmp q k) (Some v)) (sym (at_is es q))
    ∙ sym (get-insert nat_cmp_total (from_entries es) k v q))

pub removed_is : {X : Type 0} (es fs : List (ℕ × X)) (k : ℕ)
    → ((q : ℕ) → lookup (λ j. is_eq (nat_cmp q j)) fs ≡ cond (is_eq (nat_cmp k q)) None
    (lookup (λ j. is_eq (nat_cmp q j)) es)) → from_entries {R = nat_cmp} fs ≡ remove (from_entries es) k
removed_is es fs k h =
    same_map nat_cmp_total nat_cmp-IsAntisymmetric _ _ (λ q.
    at_is fs q ∙ h q ∙ ap (λ b. cond b None (lookup (λ j. is_eq (nat_cmp q j)) es))
    ((eq_by_cmp_equiv nat_cmp_total).symm k q) ∙ ap (cond (eq_by_cmp nat_cmp q k) None) (sym (at_is es q))
    ∙ sym (get-remove nat_cmp_total (from_entries es) k q))

-- ---- heaps

pub empty_is_heap : IsHeap empty
empty_is_heap = record {
  positive = λ a vs e. let n : None ≡ Some vs = sym (get-empty nat_cmp a) ∙ e in cc;
  fields = λ a vs e. let n : None ≡ Some vs = sym (get-empty nat_cmp a) ∙ e in cc;
}

one_of : {X : Type 0} (b : Bool) (x : X) (o : Option X) (y : X) → cond b (Some x) o ≡ Some y
    → ((b ≡ true) × (x ≡ y)) ⊎ (o ≡ Some y)
one_of true x o y e = inl (refl, cc)
one_of false x o y e = inr e

kept : {X : Type 0} (b : Bool) (o : Option X) (y : X) → cond b None o ≡ Some y → o ≡ Some y
kept true o y e = cc
kept false o y e = e

put_cases : (h : Cells) (a : ℕ) (vs : List ℕ) (q : ℕ) (us : List ℕ) → cell_at (insert h a vs) q ≡ Some us
    → ((q ≡ a) × (vs ≡ us)) ⊎ (cell_at h q ≡ Some us)
put_cases h a vs q us e =
    elim (one_of (eq_by_cmp nat_cmp q a) vs (cell_at h q) us (sym (get-insert nat_cmp_total h a vs q) ∙ e)) [
      | inl w ↦ inl (same_address q a w.0, w.1)
      | inr w ↦ inr w
    ]

pub put_is_heap : (h : Cells) (a : ℕ) (vs : List ℕ) → IsHeap h → 0 < a → 0 < length vs → IsHeap (insert h a vs)
put_is_heap h a vs heap positive some = record {
  positive = λ q us e. elim (put_cases h a vs q us e) [
    | inl w ↦ subst (λ n. 0 < n) (sym w.0)
        positive
    | inr w ↦ heap.positive q us w
  ];
  fields = λ q us e. elim (put_cases h a vs q us e) [
    | inl w ↦ subst (λ l. 0 < length l)
        w.1 some
    | inr w ↦ heap.fields q us w
  ];
}

pub removed_is_heap : (h : Cells) (a : ℕ) → IsHeap h → IsHeap (remove h a)
removed_is_heap h a heap = record {
  positive = λ q us e. heap.positive q us (kept (eq_by_cmp nat_cmp q a) (cell_at h q) us
      (sym (get-remove nat_cmp_total h a q) ∙ e));
  fields = λ q us e. heap.fields q us (kept (eq_by_cmp nat_cmp q a) (cell_at h q) us
      (sym (get-remove nat_cmp_total h a q) ∙ e));
}

-- ---- the entries in order

both : (a b : Bool) → T a → T b → T (a && b)
both true b p q = q
both false b p q = absurd p

is_true : (b : Bool) → b ≡ true → T b
is_true true e = tt
is_true false e = cc

less_below : {X : Type 0} (k : ℕ) (es : List (ℕ × X)) → AllByRecursion (λ y. nat_cmp k y ≡ Less) (keys_of es)
    → T (below_all nat_cmp k es)
less_below k [] h = tt
less_below k (e ∷ es) h = both (is_lt (nat_cmp k e.0)) (below_all nat_cmp k es) (is_true _ (ap is_lt h.0))
    (less_below k es h.1)

sorted_is : {X : Type 0} (es : List (ℕ × X)) → IsStrictlySortedBy nat_cmp (keys_of es) → T (is_sorted nat_cmp es)
unfolding IsStrictlySortedBy
sorted_is [] h = tt
sorted_is (e ∷ es) h = both (below_all nat_cmp e.0 es) (is_sorted nat_cmp es) (less_below e.0 es h.0) (sorted_is es h.1)

pub entries_are : {X : Type 0} (es : List (ℕ × X)) → IsStrictlySortedBy nat_cmp (keys_of es)
    → entries (from_entries {R = nat_cmp} es) ≡ es
entries_are es h =
    let s = sorted_is es h in
    ap entries (same_map nat_cmp_total nat_cmp-IsAntisymmetric _ _
    (λ q. get-from_entries nat_cmp_total es q ∙ sym (get-from_sorted nat_cmp es q s)))
    ∙ entries-from_sorted nat_cmp es s

-- one entry more
pub greatest_step : (most address fields rest left all one two : ℕ) → max most left ≡ all
    → left ≡ max address (max fields rest) → one ≡ max most address → two ≡ max one fields → max two rest ≡ all
greatest_step most address fields rest left all one two i e p q = omega arith
