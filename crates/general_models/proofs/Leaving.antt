-- Cells that are taken out of a heap.
use Rattle.std.specs.Prelude.{◌↔◌, IsTrue}
use Rattle.std.proofs.Common.{◌≡◌, ℕ, ◌+◌, ◌<◌, Bool, true, false, cond, List, length, drop, get_or, Option, Some, None}
use Rattle.std.proofs.Common.{refl, sym, ap, ◌∙◌, subst}
use Rattle.std.specs.Ordering.{nat_cmp, eq_by_cmp}
use Rattle.std.specs.Cmp.{nat_cmp_total}
use Rattle.std.specs.FinMap.{remove, get-remove}
use Rattle.heap_formula.specs.declared.atoms.Spatial.{Spatial}
use Rattle.heap_formula.specs.Values.{Stack}
use Rattle.heap_formula.specs.Cells.{Cells, cell_at, one_cell, Joins, IsUnion, IsHeap}
use Rattle.heap_formula.proofs.Unions.{same_cells}
use Rattle.heap_formula.proofs.HeapLaws.{one_cell_at}
use Rattle.heap_formula.proofs.Insertions.{same_address, one_cell_has}
use Rattle.cyc_basics.proofs.Places.{drop_read}
use Rattle.general_models.specs.Derivations.{Leaves, AtomLeaves, AtomsLeave}

joins_rest : (x y z r : Option (List ℕ)) → Joins x y r → Joins x z r → y ≡ z
joins_rest None y z r j k = sym j ∙ k
joins_rest (Some x) None None r j k = refl
joins_rest (Some x) None (Some z) r j k = absurd k
joins_rest (Some x) (Some y) z r j k = absurd j

-- a heap without a part of it is one heap
rest_same : {part g rest h : Cells} → IsUnion part g h → IsUnion part rest h → g ≡ rest
rest_same u v = same_cells _ _ (λ a. joins_rest _ _ _ _ (u.joins a) (v.joins a))

joins_some : (x : List ℕ) (y r : Option (List ℕ)) → Joins (Some x) y r → r ≡ Some x
joins_some x None r j = j
joins_some x (Some y) r j = absurd j

-- a cell beside which something is left was there
was_there : (a : ℕ) (vs : List ℕ) (g h : Cells) → IsUnion (one_cell a vs) g h → cell_at h a ≡ Some vs
was_there a vs g h u = joins_some vs (cell_at g a) (cell_at h a)
    (subst (λ o. Joins o (cell_at g a) (cell_at h a)) (one_cell_has a vs) (u.joins a))

joins_taken : (b : Bool) (vs : List ℕ) (r : Option (List ℕ)) → (b ≡ true → r ≡ Some vs)
    → Joins (cond b (Some vs) None) (cond b None r) r
joins_taken true vs r e = e refl
joins_taken false vs r e = refl

removed_union : (a : ℕ) (vs : List ℕ) (h : Cells) → cell_at h a ≡ Some vs → IsUnion (one_cell a vs) (remove h a) h
removed_union a vs h at = record {
  joins = λ q.
      let one = one_cell_at a vs q in
      let others = get-remove nat_cmp_total h a q in
      let j = joins_taken (eq_by_cmp nat_cmp q a) vs (cell_at h q) (λ e. ap (cell_at h) (same_address q a e) ∙ at) in
      rw (one, others) j;
}

false_no : {A : Type 0} → IsTrue false → A
false_no t = absurd (let z : false ≡ true = t in cc)

-- nothing is left: the test failed
pub nothing_left : {A B : Type 0} → (A → ⊥) → A ↔ (IsTrue false × B)
nothing_left n = (λ x. absurd (n x), λ t. false_no t.0)

pub not_there : (a : ℕ) (vs : List ℕ) (h n : Cells) → (cell_at h a ≡ Some vs → ⊥) → (g : Cells) → Leaves a vs h g
    ↔ (IsTrue false × (g ≡ n))
not_there a vs h n missing g = nothing_left (λ l. missing (was_there a vs g h l.2))

pub taken : (a : ℕ) (vs : List ℕ) (h n : Cells) → IsHeap h → cell_at h a ≡ Some vs → n ≡ remove h a → (g : Cells)
    → Leaves a vs h g ↔ (IsTrue true × (g ≡ n))
taken a vs h n heap at e g =
    let u = removed_union a vs h at in (
      λ l. (refl, rest_same l.2 u ∙ sym e),
      λ t. (heap.positive a vs at, heap.fields a vs at, subst (λ r. IsUnion (one_cell a vs) r h) (sym (t.1 ∙ e)) u),
    )

module _ (s e : Stack) (xs : List Spatial) (first h : Cells) (i : ℕ)
    (so_far : (g : Cells) → AtomsLeave s e xs first g ↔ AtomsLeave s e (drop i xs) h g) (x : Spatial)
    (lt : i < length xs) (is : x ≡ get_or xs i x) (b : Bool) (n : Cells)
    (one : (g : Cells) → AtomLeaves s e x h g ↔ (IsTrue b × (g ≡ n))) where
  -- the cell of one more atom
  pub next_taken : b ≡ true → (g : Cells) → AtomsLeave s e xs first g ↔ AtomsLeave s e (drop (i + 1) xs) n g
  next_taken t g =
      let rest = drop (i + 1) xs in
      let split = drop_read xs i x lt is in (
        λ all.
            let k = subst (λ ys. AtomsLeave s e ys h g) split ((so_far g).0 all) in
            subst (λ m. AtomsLeave s e rest m g) ((one k.0).0 k.1).1 k.2,
        λ left. (so_far g).1 (subst (λ ys. AtomsLeave s e ys h g) (sym split) (n, (one n).1 (t, refl), left)),
      )
