-- The cells of a spatial list stand in each heap of which it holds, and no two at one address.
use Rattle.std.proofs.Common.{◌≡◌, ◌≢◌, ℕ, zero, suc, ◌<◌, true, ◌||◌, List, [], ◌∷◌, Option, Some, None, refl, sym, ap}
use Rattle.std.proofs.Common.{◌∙◌, subst, inl, inr, arith}
use Rattle.std.specs.Prelude.{slice_get}
use Rattle.heap_formula.specs.declared.terms.Term.{Term}
use Rattle.heap_formula.specs.declared.terms.Term.TheVariants.{Nil}
use Rattle.heap_formula.specs.declared.atoms.Pure.{Pure}
use Rattle.heap_formula.specs.declared.atoms.Pure.TheVariants.{Eq, Neq}
use Rattle.heap_formula.specs.declared.atoms.Spatial.{Spatial}
use Rattle.heap_formula.specs.declared.atoms.Spatial.TheVariants.{Cell, Pred}
use Rattle.heap_formula.specs.Symbolic.{SymbolicHeap}
use Rattle.heap_formula.specs.Words.{Each}
use Rattle.heap_formula.specs.Values.{Stack, value, values}
use Rattle.heap_formula.specs.Cells.{Cells, cell_at, Joins, IsUnion}
use Rattle.heap_formula.specs.Meaning.{Family, PureHolds, IsCell, AtomHolds, SpatialHolds, Holds}
use Rattle.rule_table.specs.Tests.{same_term, is_contradiction, some_contradiction, some_cell_at, two_cells, is_absurd}
use Rattle.rule_table.proofs.Reflects.{either, same_term_is}
pub use Rattle.heap_formula.proofs.Insertions.{one_cell_has}

-- ---- what a union has

joins_left : {X : Type 0} (x y r : Option X) (v : X) → Joins x y r → x ≡ Some v → r ≡ Some v
joins_left None y r v j e = cc
joins_left (Some x) None r v j e = j ∙ e
joins_left (Some x) (Some y) r v j e = absurd j

joins_right : {X : Type 0} (x y r : Option X) (v : X) → Joins x y r → y ≡ Some v → r ≡ Some v
joins_right None y r v j e = j ∙ e
joins_right (Some x) None r v j e = cc
joins_right (Some x) (Some y) r v j e = absurd j

joins_not_both : {X : Type 0} (x y r : Option X) (v w : X) → Joins x y r → x ≡ Some v → y ≡ Some w → ⊥
joins_not_both None y r v w j e f = cc
joins_not_both (Some x) None r v w j e f = cc
joins_not_both (Some x) (Some y) r v w j e f = j

pub left_has : {l r h : Cells} (a : ℕ) (vs : List ℕ) → IsUnion l r h → cell_at l a ≡ Some vs → cell_at h a ≡ Some vs
left_has {l = l} {r = r} {h = h} a vs u e = joins_left (cell_at l a) (cell_at r a) (cell_at h a) vs (u.joins a) e

pub right_has : {l r h : Cells} (a : ℕ) (vs : List ℕ) → IsUnion l r h → cell_at r a ≡ Some vs → cell_at h a ≡ Some vs
right_has {l = l} {r = r} {h = h} a vs u e = joins_right (cell_at l a) (cell_at r a) (cell_at h a) vs (u.joins a) e

pub not_both_have : {l r h : Cells} (a : ℕ) (vs ws : List ℕ) → IsUnion l r h → cell_at l a ≡ Some vs
    → cell_at r a ≡ Some ws → ⊥
not_both_have {l = l} {r = r} {h = h} a vs ws u e f =
    joins_not_both (cell_at l a) (cell_at r a) (cell_at h a) vs ws (u.joins a) e f

-- ---- the cells of a list

pub is_cell_has : (a : ℕ) (vs : List ℕ) (h : Cells) → IsCell a vs h → cell_at h a ≡ Some vs
is_cell_has a vs h c = subst (λ g. cell_at g a ≡ Some vs) (sym c.2) (one_cell_has a vs)

module _ (s e : Stack) where
  -- the heap has the cell at place k of the list
  pub record HasCell (t : Term) (ts : List Term) (h : Cells) : Type 0 where
    pub has : cell_at h (value s e t) ≡ Some (values s e ts)
    pub positive : 0 < value s e t

  pub cell_there : (P : ℕ → Family) (xs : List Spatial) (k : ℕ) (t : Term) (ts : List Term) (h : Cells)
      → slice_get xs k ≡ Some (Cell t ts) → SpatialHolds P s e xs h → HasCell t ts h
  cell_there P [] k t ts h at a = cc
  cell_there P (x ∷ xs) zero t ts h at a =
      let same : x ≡ Cell t ts = cc in
      let c : IsCell (value s e t) (values s e ts) a.part = subst (λ y. AtomHolds (P 0) s e y a.part) same a.first in
      record { has = left_has (value s e t) (values s e ts) a.union (is_cell_has _ _ a.part c); positive = c.0 }
  cell_there P (x ∷ xs) (suc k) t ts h at a =
      let r = cell_there (λ m. P (suc m)) xs k t ts a.rest at a.others in
      record { has = right_has (value s e t) (values s e ts) a.union r.has; positive = r.positive }

  head_cell : (P : ℕ → Family) (x : Spatial) (xs : List Spatial) (k : ℕ) (t u : Term) (ts us : List Term) (h : Cells)
      → x ≡ Cell t ts → slice_get xs k ≡ Some (Cell u us) → SpatialHolds P s e (x ∷ xs) h → value s e t ≢ value s e u
  head_cell P x xs k t u ts us h is at a same =
      let c : IsCell (value s e t) (values s e ts) a.part = subst (λ y. AtomHolds (P 0) s e y a.part) is a.first in
      let r = cell_there (λ m. P (suc m)) xs k u us a.rest at a.others in
      not_both_have (value s e t) (values s e ts) (values s e us) a.union (is_cell_has _ _ a.part c)
      (ap (cell_at a.rest) same ∙ r.has)

  -- cells at two places have two addresses
  pub apart : (P : ℕ → Family) (xs : List Spatial) (i k : ℕ) (t u : Term) (ts us : List Term) (h : Cells)
      → slice_get xs i ≡ Some (Cell t ts) → slice_get xs k ≡ Some (Cell u us) → i ≢ k → SpatialHolds P s e xs h
      → value s e t ≢ value s e u
  apart P [] i k t u ts us h at_i at_k ne a = cc
  apart P (x ∷ xs) zero zero t u ts us h at_i at_k ne a = absurd (ne refl)
  apart P (x ∷ xs) zero (suc k) t u ts us h at_i at_k ne a =
      let is : x ≡ Cell t ts = cc in head_cell P x xs k t u ts us h is at_k a
  apart P (x ∷ xs) (suc i) zero t u ts us h at_i at_k ne a = λ same.
      let is : x ≡ Cell u us = cc in head_cell P x xs i u t us ts h is at_i a (sym same)
  apart P (x ∷ xs) (suc i) (suc k) t u ts us h at_i at_k ne a =
      apart (λ m. P (suc m)) xs i k t u ts us a.rest at_i at_k (λ q. ne (ap suc q)) a.others

  -- ---- Absurd

  no_contradiction : (xs : List Pure) → some_contradiction xs ≡ true → Each (PureHolds s e) xs → ⊥
  no_contradiction [] c a = cc
  no_contradiction (x ∷ xs) c a =
      elim (either (is_contradiction x) (some_contradiction xs) c) [
        | inl h ↦ here x h a.0
        | inr r ↦ no_contradiction xs r a.1
      ]
    where
      here : (x : Pure) → is_contradiction x ≡ true → PureHolds s e x → ⊥
      here (Eq t u) h a = cc
      here (Neq t u) h a = a (ap (value s e) (same_term_is t u h))

  cell_found : (u : Term) (xs : List Spatial) → some_cell_at u xs ≡ true
      → (k : ℕ) × (us : List Term) × (slice_get xs k ≡ Some (Cell u us))
  cell_found u [] c = cc
  cell_found u (Cell t ts ∷ xs) c =
      elim (either (same_term t u) (some_cell_at u xs) c) [
        | inl h ↦ (0, ts, λ i. Some (Cell (same_term_is t u h i) ts))
        | inr r ↦ let f = cell_found u xs r in (suc f.0, f.1, f.2)
      ]
  cell_found u (Pred p ts ∷ xs) c = let f = cell_found u xs c in (suc f.0, f.1, f.2)

  no_two_cells : (P : ℕ → Family) (xs : List Spatial) (h : Cells) → two_cells xs ≡ true → SpatialHolds P s e xs h → ⊥
  no_two_cells P [] h c a = cc
  no_two_cells P (Pred p ts ∷ xs) h c a = no_two_cells (λ m. P (suc m)) xs a.rest c a.others
  no_two_cells P (Cell t ts ∷ xs) h c a =
      elim (either (some_cell_at t xs) (two_cells xs) c) [
        | inl f ↦ let g = cell_found t xs f in head_cell P (Cell t ts) xs g.0 t t ts g.1 h refl g.2 a refl
        | inr r ↦ no_two_cells (λ m. P (suc m)) xs a.rest r a.others
      ]

  no_cell_at_nil : (P : ℕ → Family) (xs : List Spatial) (h : Cells) → some_cell_at Nil xs ≡ true
      → SpatialHolds P s e xs h → ⊥
  no_cell_at_nil P xs h c a =
      let f = cell_found Nil xs c in
      let g = cell_there P xs f.0 Nil f.1 h f.2 a in
      let bad : 0 < 0 = g.positive in absurd (omega arith)

  pub absurd_heap : (P : ℕ → Family) (a : SymbolicHeap) (h : Cells) → is_absurd a ≡ true → Holds P s e a h → ⊥
  absurd_heap P a h c o =
      elim (either (some_contradiction a.pure) (some_cell_at Nil a.spatial || two_cells a.spatial) c) [
        | inl p ↦ no_contradiction a.pure p o.0
        | inr q ↦ elim (either (some_cell_at Nil a.spatial) (two_cells a.spatial) q) [
          | inl n ↦ no_cell_at_nil P a.spatial h n o.1
          | inr t ↦ no_two_cells P a.spatial h t o.1
        ]
      ]
