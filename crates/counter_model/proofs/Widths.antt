-- The cells of a heap that satisfies a formula have as many fields as cells of the formula and of the definitions.
use Rattle.std.proofs.Common.{◌≡◌, ℕ, zero, suc, List, [], ◌∷◌, length, Option, Some, None, Bool, true, false, cond}
use Rattle.std.proofs.Common.{refl, sym, ap, ◌∙◌, inl, inr, ◌⊎◌}
use Rattle.std.specs.Ordering.{nat_cmp, eq_by_cmp}
use Rattle.std.specs.Cmp.{nat_cmp_total}
use Rattle.std.specs.FinMap.{empty, get-insert, get-empty}
use Rattle.heap_formula.specs.declared.terms.Term.{Term}
use Rattle.heap_formula.specs.declared.atoms.Spatial.{Spatial}
use Rattle.heap_formula.specs.declared.atoms.Spatial.TheVariants.{Cell, Pred}
use Rattle.heap_formula.specs.Symbolic.{SymbolicHeap}
use Rattle.heap_formula.specs.Definitions.{Definition}
use Rattle.heap_formula.specs.Words.{OneOf}
use Rattle.heap_formula.specs.Values.{Stack, value, values}
use Rattle.heap_formula.specs.Cells.{Cells, cell_at, one_cell, Joins}
use Rattle.heap_formula.specs.Meaning.{Family, AtomHolds, SpatialHolds, CaseHolds, cases_of, at_stage, least, Satisfies}
use Rattle.heap_formula.proofs.StageLaws.{least_in_closed}
use Rattle.counter_model.specs.Sizes.{HasFields, IsWidthIn, IsWidth}

length_values : (s e : Stack) (ts : List Term) → length (values s e ts) ≡ length ts
length_values s e [] = refl
length_values s e (t ∷ ts) = ap suc (length_values s e ts)

joined : {X : Type 0} (x y r : Option X) (v : X) → Joins x y r → r ≡ Some v → (x ≡ Some v) ⊎ (y ≡ Some v)
joined None y r v j e = inr (sym j ∙ e)
joined (Some x) None r v j e = inl (sym j ∙ e)
joined (Some x) (Some y) r v j e = absurd j

in_one_cell : (a q : ℕ) (vs us : List ℕ) → cell_at (one_cell a vs) q ≡ Some us → vs ≡ us
in_one_cell a q vs us e = by_test (eq_by_cmp nat_cmp q a)
    (sym (get-insert nat_cmp_total empty a vs q ∙ ap (cond (eq_by_cmp nat_cmp q a) (Some vs)) (get-empty nat_cmp q))
    ∙ e)
  where
    by_test : (b : Bool) → cond b (Some vs) None ≡ Some us → vs ≡ us
    by_test true k = let z : Some vs ≡ Some us = k in cc
    by_test false k = absurd (let z : None ≡ Some us = k in cc)

module _ (W : ℕ → Type 0) where
  -- each cell of the heap has such a number of fields
  abbrev pub Fits : Cells → Type 0
  Fits h = (q : ℕ) (us : List ℕ) → cell_at h q ≡ Some us → W (length us)

  widths_of : (P : ℕ → Family) → ((k p : ℕ) (vs : List ℕ) (g : Cells) → P k p vs g → Fits g)
      → (s e : Stack) (xs : List Spatial) → ((k : ℕ) → OneOf (HasFields k) xs → W k) → (h : Cells)
      → SpatialHolds P s e xs h → Fits h
  widths_of P f s e [] w h a q us i = absurd (let z : None ≡ Some us = sym (get-empty nat_cmp q)
      ∙ sym (ap (λ c. cell_at c q) a) ∙ i in cc)
  widths_of P f s e (x ∷ xs) w h a q us i =
      elim (joined (cell_at a.part q) (cell_at a.rest q) (cell_at h q) us (a.union.joins q) i) as (λ z. W (length us)) [
        | inl l ↦ first x (λ k o. w k (inl o)) a.part a.first q us l
        | inr r ↦ widths_of (λ k. P (suc k)) (λ k. f (suc k)) s e xs (λ k o. w k (inr o)) a.rest a.others q us r
      ]
    where
      first : (y : Spatial) → ((k : ℕ) → HasFields k y → W k) → (g : Cells) → AtomHolds (P 0) s e y g → Fits g
      first (Cell t ts) v g b q us i =
          let same : values s e ts ≡ us = in_one_cell (value s e t) q (values s e ts) us
          (sym (ap (λ c. cell_at c q) b.2) ∙ i) in
          v (length us) (sym (length_values s e ts) ∙ ap length same)
      first (Pred p ts) v g b q us i = f 0 p (values s e ts) g b q us i

-- a number of fields that some case has is one of the definitions'
case_width : (ds : List Definition) (W : ℕ → Type 0) → ((k : ℕ) → OneOf (λ d. OneOf (IsWidthIn k) d.cases) ds → W k)
    → (p : ℕ) (A : SymbolicHeap → Type 0) (B : Type 0) → ((b : SymbolicHeap) → ((k : ℕ) → IsWidthIn k b → W k) → A b
    → B) → OneOf A (cases_of ds p) → B
case_width [] W w p A B f o = absurd o
case_width (d ∷ ds) W w zero A B f o = each_case d.cases (λ k i. w k (inl i)) o
  where
    each_case : (bs : List SymbolicHeap) → ((k : ℕ) → OneOf (IsWidthIn k) bs → W k) → OneOf A bs → B
    each_case [] v x = absurd x
    each_case (b ∷ bs) v (inl a) = f b (λ k i. v k (inl i)) a
    each_case (b ∷ bs) v (inr x) = each_case bs (λ k i. v k (inr i)) x
case_width (d ∷ ds) W w (suc p) A B f o = case_width ds W (λ k i. w k (inr i)) p A B f o

module _ (ds : List Definition) (a : SymbolicHeap) (bs : List SymbolicHeap) where
  least_width : (p : ℕ) (vs : List ℕ) (g : Cells) → least ds p vs g → Fits (IsWidth ds a bs) g
  least_width = least_in_closed ds (λ p vs g. Fits (IsWidth ds a bs) g)
      (λ p vs h o. case_width ds (IsWidth ds a bs) (λ k i. inl i) p
      (CaseHolds (λ q us g. Fits (IsWidth ds a bs) g) vs h) (Fits (IsWidth ds a bs) h)
      (λ b w c. widths_of (IsWidth ds a bs) (λ _ q us g. Fits (IsWidth ds a bs) g) (λ k q us g f. f)
      vs c.0 b.spatial w h c.1.1) o)

  pub satisfied_width : (s : Stack) (h : Cells) → Satisfies ds s h a → (q : ℕ) (us : List ℕ) → cell_at h q ≡ Some us
      → IsWidth ds a bs (length us)
  satisfied_width s h x = widths_of (IsWidth ds a bs) (λ k. at_stage ds (x.0 k))
      (λ k p vs g m. least_width p vs g (x.0 k, m)) s x.1.0 a.spatial (λ k o. inr (inl o)) h x.1.1.1
