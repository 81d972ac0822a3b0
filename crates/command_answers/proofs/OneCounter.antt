-- The first counter-model is one.
use Rattle.std.proofs.Common.{◌≡◌, ◌≢◌, ℕ, zero, suc, ◌+◌, ◌<◌, ◌≤◌, List, length, Option, None, Some, refl, sym, ap}
use Rattle.std.proofs.Common.{◌∙◌, inl, inr, arith}
use Rattle.std.proofs.lemmas.Bool.{cases_lt}
use Rattle.std.specs.declared.cmp.Ordering.{Ordering}
use Rattle.std.specs.declared.cmp.Ordering.TheVariants.{Less, Equal, Greater}
use Rattle.std.specs.Ordering.{nat_cmp, ordering_then, ordering_reverse}
use Rattle.std.specs.Cmp.{IsTotalOrder, nat_cmp_total, on_total, then_flip, then_total}
use Rattle.std.specs.Cmp.Lexicographic.{lists_total, nat_list_cmp_total, options_total, slice_cmp}
use Rattle.std.specs.FinMap.{IsAntisymmetric, nat_cmp-IsAntisymmetric, slice_cmp-IsAntisymmetric}
use Rattle.heap_formula.specs.Cells.{Cells, cell_at}
use Rattle.heap_formula.specs.Definitions.{Definition}
use Rattle.heap_formula.specs.Symbolic.{SymbolicHeap}
use Rattle.heap_formula.specs.Values.{Stack}
use Rattle.heap_formula.proofs.Unions.{same_cells}
use Rattle.counter_model.specs.FirstCounter.{HasSize, IsFirstCounter}
use Rattle.counter_model.specs.Sizes.{cell_cmp, fields_cmp, heap_cmp, pair_cmp, rows}

-- ---- what is not after, either way, is equal

cells_total : IsTotalOrder cell_cmp
cells_total = options_total (then_total (on_total length nat_cmp_total) nat_list_cmp_total)

turned : (n : ℕ) (s t : Stack) (h g : Cells) → pair_cmp n s h t g ≡ ordering_reverse (pair_cmp n t g s h)
turned n s t h g =
    (λ i. ordering_then (nat_list_cmp_total.antisymm s t i)
    ((lists_total cells_total).antisymm (rows h 1 n) (rows g 1 n) i))
    ∙ then_flip (slice_cmp nat_cmp t s) (heap_cmp n g h)

neither : (o r : Ordering) → o ≡ ordering_reverse r → o ≢ Greater → r ≢ Greater → o ≡ Equal
neither Less Less e a b = cc
neither Less Equal e a b = cc
neither Less Greater e a b = absurd (b refl)
neither Equal r e a b = refl
neither Greater r e a b = absurd (a refl)

both_equal : (o r : Ordering) → ordering_then o r ≡ Equal → (o ≡ Equal) × (r ≡ Equal)
both_equal Less r e = absurd cc
both_equal Equal r e = (refl, e)
both_equal Greater r e = absurd cc

-- ---- heaps that compare as equal

same_fields : IsAntisymmetric fields_cmp
same_fields vs us e =
    slice_cmp-IsAntisymmetric nat_cmp-IsAntisymmetric vs us
    (both_equal (nat_cmp (length vs) (length us)) (slice_cmp nat_cmp vs us) e).1

same_cell : IsAntisymmetric cell_cmp
same_cell None None e = refl
same_cell None (Some us) e = absurd cc
same_cell (Some vs) None e = absurd cc
same_cell (Some vs) (Some us) e = ap Some (same_fields vs us e)

-- what stands at an address is one of the rows
row_at : (h g : Cells) (a n q : ℕ) → rows h a n ≡ rows g a n → a ≤ q → q < a + n → cell_at h q ≡ cell_at g q
row_at h g a zero q e low high = absurd (omega (arith, low, high))
row_at h g a (suc n) q e low high =
    let first : cell_at h a ≡ cell_at g a = cc in
    let others : rows h (suc a) n ≡ rows g (suc a) n = cc in
    elim (cases_lt a q) [
      | inl less ↦ row_at h g (suc a) n q others (omega (arith, less)) (omega (arith, high))
      | inr le ↦ let here : q ≡ a = omega (arith, le, low) in rw here first
    ]

-- no cell stands elsewhere
nothing_at : (h : Cells) (n q : ℕ) → ((a : ℕ) (vs : List ℕ) → cell_at h a ≡ Some vs → (0 < a) × (a ≤ n))
    → ((0 < q) × (q ≤ n) → ⊥) → cell_at h q ≡ None
nothing_at h n q within outside = by_cell (cell_at h q) refl
  where
    by_cell : (o : Option (List ℕ)) → cell_at h q ≡ o → cell_at h q ≡ None
    by_cell None e = e
    by_cell (Some vs) e = absurd (outside (within q vs e))

module _ (ds : List Definition) (a : SymbolicHeap) (bs : List SymbolicHeap) (n : ℕ) (s t : Stack) (h g : Cells) where
  same_at : HasSize ds a bs n s h → HasSize ds a bs n t g → rows h 1 n ≡ rows g 1 n → (q : ℕ)
      → cell_at h q ≡ cell_at g q
  same_at first second e q = elim (cases_lt 0 q) [
    | inl some ↦ elim (cases_lt n q) [
      | inl above ↦ apart (λ is. omega (arith, is.1, above))
      | inr le ↦ row_at h g 1 n q e (omega (arith, some)) (omega (arith, le))
    ]
    | inr none ↦ apart (λ is. omega (arith, is.0, none))
  ]
    where
      apart : ((0 < q) × (q ≤ n) → ⊥) → cell_at h q ≡ cell_at g q
      apart outside = nothing_at h n q first.addresses outside ∙ sym (nothing_at g n q second.addresses outside)

  pub one_counter : IsFirstCounter ds a bs n s h → IsFirstCounter ds a bs n t g → (s ≡ t) × (h ≡ g)
  one_counter first second =
      let equal = neither (pair_cmp n s h t g) (pair_cmp n t g s h) (turned n s t h g)
      (first.first t g second.size second.counter) (second.first s h first.size first.counter) in
      let parts = both_equal (slice_cmp nat_cmp s t) (heap_cmp n h g) equal in
      let lists = slice_cmp-IsAntisymmetric same_cell (rows h 1 n) (rows g 1 n) parts.1 in (
        slice_cmp-IsAntisymmetric nat_cmp-IsAntisymmetric s t parts.0,
        same_cells h g (same_at first.size second.size lists),
      )
