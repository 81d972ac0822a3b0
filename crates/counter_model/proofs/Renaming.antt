-- Addresses change places: formulas say the same of the renamed stack and heap.
use Rattle.std.proofs.Common.{◌≡◌, ℕ, zero, suc, ◌<◌, List, [], ◌∷◌, length, Bool, true, false, cond, Option, Some}
use Rattle.std.proofs.Common.{None, refl, sym, ap, ◌∙◌, subst, arith, map}
use Rattle.std.specs.Prelude.{slice_index}
use Rattle.std.specs.Ordering.{nat_cmp, eq_by_cmp}
use Rattle.std.specs.Cmp.{nat_cmp_total, eq_by_cmp_equiv}
use Rattle.std.specs.FinMap.{entries, find, from_entries, get-from_entries, get-entries, get-empty}
use Rattle.heap_formula.specs.declared.terms.Term.{Term}
use Rattle.heap_formula.specs.declared.terms.Term.TheVariants.{Nil, Univ, Exist}
use Rattle.heap_formula.specs.declared.atoms.Pure.{Pure}
use Rattle.heap_formula.specs.declared.atoms.Pure.TheVariants.{Eq, Neq}
use Rattle.heap_formula.specs.declared.atoms.Spatial.{Spatial}
use Rattle.heap_formula.specs.declared.atoms.Spatial.TheVariants.{Cell, Pred}
use Rattle.heap_formula.specs.Symbolic.{SymbolicHeap}
use Rattle.heap_formula.specs.Definitions.{Definition}
use Rattle.heap_formula.specs.Words.{Each}
use Rattle.heap_formula.specs.Values.{Stack, value, values}
use Rattle.heap_formula.specs.Cells.{Cells, cell_at, no_cells, one_cell, Joins, IsUnion}
use Rattle.heap_formula.specs.Meaning.{Family, PureHolds, IsCell, AtomHolds, SpatialHolds, CaseHolds, cases_of}
use Rattle.heap_formula.specs.Meaning.{at_stage, Satisfies, SatisfiesOne}
use Rattle.heap_formula.proofs.Unions.{same_cells}
use Rattle.heap_formula.proofs.StageLaws.{OneOf-map}
use Rattle.cyc_basics.proofs.Tests.{bool_same}
use Rattle.heap_formula.proofs.Insertions.{same_address}
use Rattle.heap_formula.proofs.HeapLaws.{one_cell_at}

abbrev pub over : {X Y : Type 0} → (X → Y) → Option X → Option Y
over f None = None
over f (Some x) = Some (f x)

over_cond : {X Y : Type 0} (f : X → Y) (b : Bool) (x y : Option X) → over f (cond b x y) ≡ cond b (over f x) (over f y)
over_cond f true x y = refl
over_cond f false x y = refl

address_same : (q a : ℕ) → q ≡ a → eq_by_cmp nat_cmp q a ≡ true
address_same q a e = subst (λ x. eq_by_cmp nat_cmp q x ≡ true) e ((eq_by_cmp_equiv nat_cmp_total).refl q)

-- swap undoes itself and leaves 0 where it is
module _ (swap : ℕ → ℕ) (twice : (x : ℕ) → swap (swap x) ≡ x) (at_zero : swap 0 ≡ 0) where
  pub renamed : Cells → Cells
  renamed h = from_entries (map (λ e. (swap e.0, map swap e.1)) (entries h))

  swapped_eq : (q k : ℕ) → eq_by_cmp nat_cmp q (swap k) ≡ eq_by_cmp nat_cmp (swap q) k
  swapped_eq q k = bool_same _ _ (λ t. address_same (swap q) k (ap swap (same_address q (swap k) t) ∙ twice k))
      (λ t. address_same q (swap k) (sym (twice q) ∙ ap swap (same_address (swap q) k t)))

  find_renamed : (es : List (ℕ × List ℕ)) (q : ℕ) → find nat_cmp q (map (λ e. (swap e.0, map swap e.1)) es)
      ≡ over (map swap) (find nat_cmp (swap q) es)
  find_renamed [] q = refl
  find_renamed (e ∷ es) q =
      ap (λ b. cond b (Some (map swap e.1)) (find nat_cmp q (map (λ d. (swap d.0, map swap d.1)) es)))
      (swapped_eq q e.0) ∙ ap (cond (eq_by_cmp nat_cmp (swap q) e.0) (Some (map swap e.1))) (find_renamed es q)
      ∙ sym (over_cond (map swap) (eq_by_cmp nat_cmp (swap q) e.0) (Some e.1) (find nat_cmp (swap q) es))

  pub at_renamed : (h : Cells) (q : ℕ) → cell_at (renamed h) q ≡ over (map swap) (cell_at h (swap q))
  unfolding renamed
  at_renamed h q =
      get-from_entries nat_cmp_total (map (λ e. (swap e.0, map swap e.1)) (entries h)) q ∙ find_renamed (entries h) q
      ∙ ap (over (map swap)) (sym (get-entries h (swap q)))

  pub map_twice : (vs : List ℕ) → map swap (map swap vs) ≡ vs
  map_twice [] = refl
  map_twice (v ∷ vs) = λ i. twice v i ∷ map_twice vs i

  over_twice : (x : Option (List ℕ)) → over (map swap) (over (map swap) x) ≡ x
  over_twice None = refl
  over_twice (Some vs) = ap Some (map_twice vs)

  pub renamed_twice : (h : Cells) → renamed (renamed h) ≡ h
  renamed_twice h = same_cells _ _ (λ q. at_renamed (renamed h) q ∙ ap (over (map swap)) (at_renamed h (swap q))
      ∙ ap (λ x. over (map swap) (over (map swap) (cell_at h x))) (twice q) ∙ over_twice (cell_at h q))

  index_renamed : (s : Stack) (n : ℕ) → slice_index (map swap s) n ≡ swap (slice_index s n)
  index_renamed [] n = sym at_zero
  index_renamed (v ∷ s) zero = refl
  index_renamed (v ∷ s) (suc n) = index_renamed s n

  value_renamed : (s e : Stack) (t : Term) → value (map swap s) (map swap e) t ≡ swap (value s e t)
  value_renamed s e Nil = sym at_zero
  value_renamed s e (Univ n) = index_renamed s n
  value_renamed s e (Exist n) = index_renamed e n

  values_renamed : (s e : Stack) (ts : List Term) → values (map swap s) (map swap e) ts ≡ map swap (values s e ts)
  values_renamed s e [] = refl
  values_renamed s e (t ∷ ts) = λ i. value_renamed s e t i ∷ values_renamed s e ts i

  injective : (x y : ℕ) → swap x ≡ swap y → x ≡ y
  injective x y e = sym (twice x) ∙ ap swap e ∙ twice y

  pure_renamed : (s e : Stack) (x : Pure) → PureHolds s e x → PureHolds (map swap s) (map swap e) x
  pure_renamed s e (Eq t u) p = value_renamed s e t ∙ ap swap p ∙ sym (value_renamed s e u)
  pure_renamed s e (Neq t u) p = λ q. p (injective _ _ (sym (value_renamed s e t) ∙ q ∙ value_renamed s e u))

  pures_renamed : (s e : Stack) (xs : List Pure) → Each (PureHolds s e) xs
      → Each (PureHolds (map swap s) (map swap e)) xs
  pures_renamed s e [] p = tt
  pures_renamed s e (x ∷ xs) p = (pure_renamed s e x p.0, pures_renamed s e xs p.1)

  joins_renamed : (x y r : Option (List ℕ)) → Joins x y r
      → Joins (over (map swap) x) (over (map swap) y) (over (map swap) r)
  joins_renamed None y r j = ap (over (map swap)) j
  joins_renamed (Some x) None r j = ap (over (map swap)) j
  joins_renamed (Some x) (Some y) r j = absurd j

  union_renamed : (l r h : Cells) → IsUnion l r h → IsUnion (renamed l) (renamed r) (renamed h)
  union_renamed l r h u = record {
    joins = λ q. rw (at_renamed l q, at_renamed r q, at_renamed h q)
        (joins_renamed (cell_at l (swap q)) (cell_at r (swap q)) (cell_at h (swap q)) (u.joins (swap q)));
  }

  none_renamed : renamed no_cells ≡ no_cells
  none_renamed = same_cells _ _ (λ q. at_renamed no_cells q ∙ ap (over (map swap)) (get-empty nat_cmp (swap q))
      ∙ sym (get-empty nat_cmp q))

  one_renamed : (a : ℕ) (vs : List ℕ) → renamed (one_cell a vs) ≡ one_cell (swap a) (map swap vs)
  one_renamed a vs = same_cells _ _ (λ q. at_renamed (one_cell a vs) q
      ∙ ap (over (map swap)) (one_cell_at a vs (swap q)) ∙ over_cond (map swap) (eq_by_cmp nat_cmp (swap q) a) (Some vs)
      None ∙ ap (λ b. cond b (Some (map swap vs)) None) (sym (swapped_eq q a))
      ∙ sym (one_cell_at (swap a) (map swap vs) q))

  length_renamed : (vs : List ℕ) → length (map swap vs) ≡ length vs
  length_renamed [] = refl
  length_renamed (v ∷ vs) = ap suc (length_renamed vs)

  positive_renamed : (a : ℕ) → 0 < a → 0 < swap a
  positive_renamed a p = above (swap a) refl
    where
      above : (b : ℕ) → swap a ≡ b → 0 < b
      above zero e = absurd (let z : a ≡ 0 = sym (twice a) ∙ ap swap e ∙ at_zero in omega arith)
      above (suc b) e = omega arith

  cell_renamed : (a : ℕ) (vs : List ℕ) (h : Cells) → IsCell a vs h → IsCell (swap a) (map swap vs) (renamed h)
  cell_renamed a vs h c = (
    positive_renamed a c.0,
    (let l : length (map swap vs) ≡ length vs = length_renamed vs in let k : 0 < length vs = c.1 in omega arith),
    ap renamed c.2 ∙ one_renamed a vs,
  )

  module _ (P : Family) (same : (p : ℕ) (vs : List ℕ) (h : Cells) → P p vs h → P p (map swap vs) (renamed h)) where
    atom_renamed : (s e : Stack) (x : Spatial) (h : Cells) → AtomHolds P s e x h
        → AtomHolds P (map swap s) (map swap e) x (renamed h)
    atom_renamed s e (Cell t ts) h a =
        let c = cell_renamed (value s e t) (values s e ts) h a in
        subst (λ v. IsCell v (values (map swap s) (map swap e) ts) (renamed h)) (sym (value_renamed s e t))
        (subst (λ us. IsCell (swap (value s e t)) us (renamed h)) (sym (values_renamed s e ts)) c)
    atom_renamed s e (Pred p ts) h a = subst (λ us. P p us (renamed h)) (sym (values_renamed s e ts))
        (same p (values s e ts) h a)

  spatial_renamed : (P : ℕ → Family) → ((k p : ℕ) (vs : List ℕ) (h : Cells) → P k p vs h
      → P k p (map swap vs) (renamed h)) → (s e : Stack) (xs : List Spatial) (h : Cells) → SpatialHolds P s e xs h
      → SpatialHolds P (map swap s) (map swap e) xs (renamed h)
  spatial_renamed P same s e [] h a = ap renamed a ∙ none_renamed
  spatial_renamed P same s e (x ∷ xs) h a =
      record {
        part = renamed a.part;
        rest = renamed a.rest;
        union = union_renamed a.part a.rest h a.union;
        first = atom_renamed (P 0) (same 0) s e x a.part a.first;
        others = spatial_renamed (λ k. P (suc k)) (λ k. same (suc k)) s e xs a.rest a.others;
      }

  stage_renamed : (ds : List Definition) (n p : ℕ) (vs : List ℕ) (h : Cells) → at_stage ds n p vs h
      → at_stage ds n p (map swap vs) (renamed h)
  stage_renamed ds zero p vs h a = absurd a
  stage_renamed ds (suc n) p vs h a =
      OneOf-map (CaseHolds (at_stage ds n) vs h) (CaseHolds (at_stage ds n) (map swap vs) (renamed h))
      (λ b c. (
        map swap c.0,
        (
          pures_renamed vs c.0 b.pure c.1.0,
          spatial_renamed (λ _. at_stage ds n) (λ k q us g x. stage_renamed ds n q us g x) vs c.0 b.spatial h c.1.1,
        ),
      ))
      (cases_of ds p) a

  pub satisfies_renamed : (ds : List Definition) (s : Stack) (h : Cells) (a : SymbolicHeap) → Satisfies ds s h a
      → Satisfies ds (map swap s) (renamed h) a
  satisfies_renamed ds s h a x = (
    x.0,
    (
      map swap x.1.0,
      (
        pures_renamed s x.1.0 a.pure x.1.1.0,
        spatial_renamed (λ k. at_stage ds (x.0 k)) (λ k q us g y. stage_renamed ds (x.0 k) q us g y)
            s x.1.0 a.spatial h x.1.1.1,
      ),
    ),
  )

  pub one_renamed_back : (ds : List Definition) (s : Stack) (h : Cells) (bs : List SymbolicHeap)
      → SatisfiesOne ds (map swap s) (renamed h) bs → SatisfiesOne ds s h bs
  one_renamed_back ds s h bs o = OneOf-map (Satisfies ds (map swap s) (renamed h)) (Satisfies ds s h) (λ b x.
      let y = satisfies_renamed ds (map swap s) (renamed h) b x in
      subst (λ g. Satisfies ds s g b) (renamed_twice h)
      (subst (λ t. Satisfies ds t (renamed (renamed h)) b) (map_twice s) y)) bs o
