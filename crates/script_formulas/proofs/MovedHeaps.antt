-- Heaps with sorts whose values change places, those of each sort among themselves.
use Rattle.std.proofs.Common.{◌≡◌, ℕ, zero, suc, Bool, true, false, cond, List, [], ◌∷◌, ◌++◌, map, length, get_or}
use Rattle.std.proofs.Common.{Option, Some, None, refl, sym, ap, ◌∙◌, subst, arith}
use Rattle.std.specs.Prelude.{nat_eq, slice_get, slice_index}
use Rattle.std.specs.Ordering.{nat_cmp, eq_by_cmp}
use Rattle.std.specs.FinMap.{entries, get-entries, get-empty}
use Rattle.std.specs.FinMap.Entries.{find}
use Rattle.heap_formula.specs.Cells.{cell_at, no_cells, one_cell, Joins}
use Rattle.heap_formula.proofs.Unions.{same_cells}
use Rattle.heap_formula.proofs.HeapLaws.{one_cell_at}
use Rattle.heap_formula.proofs.Insertions.{same_address, itself}
use Rattle.script_formulas.specs.declared.script.Constructor.{Constructor}
use Rattle.script_formulas.specs.Heaps.{SortedCells, no_sorted_cells, one_sorted_cell, IsSortedUnion}
use Rattle.script_formulas.proofs.Encoding.{over, over_at, first_some, same_numbers}

-- nil stays, and values change places in pairs
pub record IsExchange (f : ℕ → ℕ → ℕ) : Type 0 where
  pub nil : (sort : ℕ) → f sort 0 ≡ 0
  pub twice : (sort v : ℕ) → f sort (f sort v) ≡ v

-- the sorts of the fields of a constructor
abbrev pub fields_at : List Constructor → ℕ → List ℕ
fields_at [] c = []
fields_at (k ∷ ks) zero = k.fields.items
fields_at (k ∷ ks) (suc c) = fields_at ks c

pub fields_found : (ks : List Constructor) (c : ℕ) (k : Constructor) → slice_get ks c ≡ Some k
    → fields_at ks c ≡ k.fields.items
fields_found [] c k e = absurd cc
fields_found (x ∷ ks) zero k e = let is : x ≡ k = cc in ap (λ r. r.fields.items) is
fields_found (x ∷ ks) (suc c) k e = fields_found ks c k e

pub location_found : (ks : List Constructor) (c : ℕ) (k : Constructor) → slice_get ks c ≡ Some k
    → slice_index (map (λ r. r.location) ks) c ≡ k.location
location_found [] c k e = absurd cc
location_found (x ∷ ks) zero k e = let is : x ≡ k = cc in ap (λ r. r.location) is
location_found (x ∷ ks) (suc c) k e = location_found ks c k e

abbrev in_option : {X Y : Type 0} → (X → Y) → Option X → Option Y
in_option g None = None
in_option g (Some x) = Some (g x)

first_alone : {X : Type 0} (o : Option X) → first_some o None ≡ o
first_alone None = refl
first_alone (Some x) = refl

joins_mapped : {X Y : Type 0} (g : X → Y) (x y r : Option X) → Joins x y r
    → Joins (in_option g x) (in_option g y) (in_option g r)
joins_mapped g None y r j = ap (in_option g) j
joins_mapped g (Some x) None r j = ap (in_option g) j
joins_mapped g (Some x) (Some y) r j = absurd j

module _ (f : ℕ → ℕ → ℕ) (constructors : List Constructor) where
  -- values of these sorts; what is behind them stays
  abbrev pub moved : List ℕ → List ℕ → List ℕ
  moved [] vs = vs
  moved (sort ∷ sorts) [] = []
  moved (sort ∷ sorts) (v ∷ vs) = f sort v ∷ moved sorts vs

  abbrev pub moved_content : List ℕ → List ℕ
  moved_content [] = []
  moved_content (c ∷ vs) = c ∷ moved (fields_at constructors c) vs

  abbrev moved_entries : ℕ → List (ℕ × List ℕ) → List (ℕ × List ℕ)
  moved_entries sort [] = []
  moved_entries sort (e ∷ es) = (f sort e.0, moved_content e.1) ∷ moved_entries sort es

  pub moved_heap : SortedCells → SortedCells
  moved_heap h sort = over (moved_entries sort (entries (h sort))) no_cells

  module _ (exchange : IsExchange f) where
    pub moved_twice : (sorts vs : List ℕ) → moved sorts (moved sorts vs) ≡ vs
    moved_twice [] vs = refl
    moved_twice (sort ∷ sorts) [] = refl
    moved_twice (sort ∷ sorts) (v ∷ vs) = λ i. exchange.twice sort v i ∷ moved_twice sorts vs i

    content_twice : (x : List ℕ) → moved_content (moved_content x) ≡ x
    content_twice [] = refl
    content_twice (c ∷ vs) = λ i. c ∷ moved_twice (fields_at constructors c) vs i

    same_place : (sort a b : ℕ) → eq_by_cmp nat_cmp a (f sort b) ≡ eq_by_cmp nat_cmp (f sort a) b
    same_place sort a b = by_test (eq_by_cmp nat_cmp a (f sort b)) (eq_by_cmp nat_cmp (f sort a) b) refl refl
      where
        by_test : (s t : Bool) → eq_by_cmp nat_cmp a (f sort b) ≡ s → eq_by_cmp nat_cmp (f sort a) b ≡ t
            → eq_by_cmp nat_cmp a (f sort b) ≡ eq_by_cmp nat_cmp (f sort a) b
        by_test true true p q = p ∙ sym q
        by_test false false p q = p ∙ sym q
        by_test true false p q =
            let is : f sort a ≡ b = ap (f sort) (same_address a (f sort b) p) ∙ exchange.twice sort b in
            p ∙ sym (ap (λ n. eq_by_cmp nat_cmp n b) is ∙ itself b)
        by_test false true p q =
            let is : a ≡ f sort b = sym (exchange.twice sort a) ∙ ap (f sort) (same_address (f sort a) b q) in
            ap (λ n. eq_by_cmp nat_cmp n (f sort b)) is ∙ itself (f sort b) ∙ sym q

    found_moved : (sort : ℕ) (es : List (ℕ × List ℕ)) (a : ℕ) → find nat_cmp a (moved_entries sort es)
        ≡ in_option moved_content (find nat_cmp (f sort a) es)
    found_moved sort [] a = refl
    found_moved sort (e ∷ es) a =
        ap (λ b. cond b (Some (moved_content e.1)) (find nat_cmp a (moved_entries sort es))) (same_place sort a e.0)
        ∙ ap (λ o. cond (eq_by_cmp nat_cmp (f sort a) e.0) (Some (moved_content e.1)) o) (found_moved sort es a)
        ∙ elim (eq_by_cmp nat_cmp (f sort a) e.0) as (λ b. cond b (Some (moved_content e.1))
        (in_option moved_content (find nat_cmp (f sort a) es))
        ≡ in_option moved_content (cond b (Some e.1) (find nat_cmp (f sort a) es))) [ true ↦ refl | false ↦ refl ]

    pub moved_at : (h : SortedCells) (sort a : ℕ) → cell_at (moved_heap h sort) a
        ≡ in_option moved_content (cell_at (h sort) (f sort a))
    unfolding moved_heap
    moved_at h sort a =
        over_at (moved_entries sort (entries (h sort))) no_cells a
        ∙ ap (first_some (find nat_cmp a (moved_entries sort (entries (h sort))))) (get-empty nat_cmp a)
        ∙ first_alone (find nat_cmp a (moved_entries sort (entries (h sort))))
        ∙ found_moved sort (entries (h sort)) a
        ∙ ap (in_option moved_content) (sym (get-entries (h sort) (f sort a)))

    -- a cell of the moved heap comes of one
    pub moved_from : (h : SortedCells) (sort a : ℕ) (x : List ℕ) → cell_at (moved_heap h sort) a ≡ Some x
        → (y : List ℕ) × (cell_at (h sort) (f sort a) ≡ Some y)
    moved_from h sort a x e = by_cell (cell_at (h sort) (f sort a)) refl (sym (moved_at h sort a) ∙ e)
      where
        by_cell : (o : Option (List ℕ)) → cell_at (h sort) (f sort a) ≡ o → in_option moved_content o ≡ Some x
            → (y : List ℕ) × (cell_at (h sort) (f sort a) ≡ Some y)
        by_cell None is there = absurd cc
        by_cell (Some y) is there = (y, is)

    pub heap_twice : (h : SortedCells) → moved_heap (moved_heap h) ≡ h
    heap_twice h = λ i sort. same_cells (moved_heap (moved_heap h) sort) (h sort) (λ a. at sort a) i
      where
        option_twice : (o : Option (List ℕ)) → in_option moved_content (in_option moved_content o) ≡ o
        option_twice None = refl
        option_twice (Some x) = ap Some (content_twice x)

        at : (sort a : ℕ) → cell_at (moved_heap (moved_heap h) sort) a ≡ cell_at (h sort) a
        at sort a =
            moved_at (moved_heap h) sort a
            ∙ ap (in_option moved_content) (moved_at h sort (f sort a))
            ∙ option_twice (cell_at (h sort) (f sort (f sort a)))
            ∙ ap (cell_at (h sort)) (exchange.twice sort a)

    pub moved_none : moved_heap no_sorted_cells ≡ no_sorted_cells
    moved_none = λ i sort. same_cells (moved_heap no_sorted_cells sort) no_cells (λ a. at sort a) i
      where
        at : (sort a : ℕ) → cell_at (moved_heap no_sorted_cells sort) a ≡ cell_at no_cells a
        at sort a =
            moved_at no_sorted_cells sort a
            ∙ ap (in_option moved_content) (get-empty nat_cmp (f sort a))
            ∙ sym (get-empty nat_cmp a)

    pub moved_union : {l r h : SortedCells} → IsSortedUnion l r h
        → IsSortedUnion (moved_heap l) (moved_heap r) (moved_heap h)
    moved_union {l = l} {r = r} {h = h} u = record {
      at = λ sort. record {
        joins = λ a.
            subst (λ o. Joins o (cell_at (moved_heap r sort) a) (cell_at (moved_heap h sort) a))
            (sym (moved_at l sort a))
            (subst (λ o. Joins (in_option moved_content (cell_at (l sort) (f sort a))) o
            (cell_at (moved_heap h sort) a)) (sym (moved_at r sort a))
            (subst (λ o. Joins (in_option moved_content (cell_at (l sort) (f sort a)))
            (in_option moved_content (cell_at (r sort) (f sort a))) o) (sym (moved_at h sort a))
            (joins_mapped moved_content (cell_at (l sort) (f sort a)) (cell_at (r sort) (f sort a))
            (cell_at (h sort) (f sort a)) ((u.at sort).joins (f sort a)))));
      };
    }

    pub moved_one : (sort a : ℕ) (x : List ℕ) → moved_heap (one_sorted_cell sort a x)
        ≡ one_sorted_cell sort (f sort a) (moved_content x)
    moved_one sort a x = λ i other. same_cells (moved_heap (one_sorted_cell sort a x) other)
        (one_sorted_cell sort (f sort a) (moved_content x) other)
        (λ b. moved_at (one_sorted_cell sort a x) other b ∙ at other b (nat_eq sort other) refl) i
      where
        placed : (b : ℕ) (t : Bool) → in_option moved_content (cond t (Some x) None)
            ≡ cond t (Some (moved_content x)) None
        placed b true = refl
        placed b false = refl

        at : (other b : ℕ) (t : Bool) → nat_eq sort other ≡ t
            → in_option moved_content (cell_at (cond t (one_cell a x) no_cells) (f other b))
            ≡ cell_at (cond t (one_cell (f sort a) (moved_content x)) no_cells) b
        at other b true same =
            let is : other ≡ sort = sym (same_numbers sort other same) in
            ap (in_option moved_content) (one_cell_at a x (f other b))
            ∙ placed b (eq_by_cmp nat_cmp (f other b) a)
            ∙ ap (λ t. cond t (Some (moved_content x)) None) (sym (same_place other b a)
            ∙ ap (λ n. eq_by_cmp nat_cmp b (f n a)) is)
            ∙ sym (one_cell_at (f sort a) (moved_content x) b)
        at other b false same =
            ap (in_option moved_content) (get-empty nat_cmp (f other b)) ∙ sym (get-empty nat_cmp b)

    -- ---- values

    pub moved_value : (sorts vs : List ℕ) (n sort : ℕ) → slice_get sorts n ≡ Some sort
        → get_or (moved sorts vs) n 0 ≡ f sort (get_or vs n 0)
    moved_value [] vs n sort e = absurd cc
    moved_value (x ∷ sorts) [] n sort e = sym (exchange.nil sort)
    moved_value (x ∷ sorts) (v ∷ vs) zero sort e = let is : x ≡ sort = cc in ap (λ s. f s v) is
    moved_value (x ∷ sorts) (v ∷ vs) (suc n) sort e = moved_value sorts vs n sort e

  pub moved_last : (sorts vs : List ℕ) (sort v : ℕ) → length vs ≡ length sorts
      → moved (sorts ++ sort ∷ []) (vs ++ v ∷ []) ≡ moved sorts vs ++ f sort v ∷ []
  moved_last [] [] sort v e = refl
  moved_last [] (w ∷ vs) sort v e = absurd (omega (arith, e))
  moved_last (x ∷ sorts) [] sort v e = absurd (omega (arith, e))
  moved_last (x ∷ sorts) (w ∷ vs) sort v e = λ i. f x w ∷ moved_last sorts vs sort v (omega (arith, e)) i

  pub length_moved : (sorts vs : List ℕ) → length (moved sorts vs) ≡ length vs
  length_moved [] vs = refl
  length_moved (sort ∷ sorts) [] = refl
  length_moved (sort ∷ sorts) (v ∷ vs) = let r = length_moved sorts vs in omega (arith, r)
