-- Atoms, one after the other.
use Rattle.std.proofs.Common.{◌≡◌, ℕ, suc, ◌+◌, ◌<◌, ◌≤◌, List, [], ◌∷◌, length, drop, get_or, add-one, drop-cons, Bool}
use Rattle.std.proofs.Common.{false, ◌||◌, refl, sym, ap, ◌∙◌, subst, inl, arith}
use Rattle.std.specs.Prelude.{slice_get}
use Rattle.heap_formula.specs.declared.terms.Term.{Term}
use Rattle.heap_formula.specs.declared.atoms.Spatial.{Spatial}
use Rattle.heap_formula.specs.declared.atoms.Spatial.TheVariants.{Cell, Pred}
use Rattle.heap_formula.specs.Values.{Stack, value, values}
use Rattle.heap_formula.specs.Cells.{Cells, no_cells, IsUnion, Star}
use Rattle.heap_formula.specs.Meaning.{Family, IsCell, AtomHolds, SpatialHolds}
use Rattle.heap_formula.proofs.Unions.{star_map, star_assoc_back, empty_union, union_empty, union_same}
use Rattle.model_check.specs.Grounding.{IsQuestion}
use Rattle.counter_model.specs.Bounds.{IsAmong}
use Rattle.counter_model.specs.Findings.{Findings, heaps_in, found_if_asked, UnlessGrown}
use Rattle.std.proofs.lemmas.List.{drop_all}
use Rattle.counter_model.proofs.Turns.{both_steps, then}

-- a cell beside the parts
pub cell_beside : (n : ℕ) (P : Family) (parts cells view out : List Cells) (s e : Stack) (x : Spatial) (t : Term)
    (ts us : List Term) (vs : List ℕ) (a : ℕ) → x ≡ Cell t ts → us ≡ ts → vs ≡ values s e us → a ≡ value s e t
    → ((m : ℕ) (h : Cells) → IsCell a vs h → IsAmong m cells h) → view ≡ cells
    → ((h : Cells) → Star (IsAmong n parts) (IsAmong n view) h → IsAmong n out h) → (h : Cells)
    → Star (IsAmong n parts) (AtomHolds P s e x) h → IsAmong n out h
cell_beside n P parts cells view out s e x t ts us vs a xe ue ve ae f w g h o =
    let o' : Star (IsAmong n parts) (IsCell (value s e t) (values s e ts)) h = subst
    (λ y. Star (IsAmong n parts) (AtomHolds P s e y) h) xe o in
    let v : vs ≡ values s e ts = ve ∙ ap (values s e) ue in
    g h (star_map (λ c p. p) (λ c i. subst (λ hs. IsAmong n hs c) (sym w)
    (f n c (subst (λ y. IsCell y vs c) (sym ae) (subst (λ y. IsCell (value s e t) y c) (sym v) i)))) o')

-- what is found of a predicate beside the parts
pub found_beside : (n : ℕ) (t0 t1 : Findings) (fresh : Bool) (parts heaps out : List Cells) (s e : Stack) (x : Spatial)
    (p : ℕ) (ts us : List Term) (vs : List ℕ) (q : ℕ) → x ≡ Pred p ts → us ≡ ts → vs ≡ values s e us
    → UnlessGrown fresh t0 t1 (IsQuestion t0.questions q p vs) → heaps ≡ heaps_in (slice_get t1.found q)
    → ((h : Cells) → Star (IsAmong n parts) (IsAmong n heaps) h → IsAmong n out h)
    → UnlessGrown fresh t0 t1 ((h : Cells) → Star (IsAmong n parts) (AtomHolds (found_if_asked n t0) s e x) h
    → IsAmong n out h)
found_beside n t0 t1 fresh parts heaps out s e x p ts us vs q xe ue ve k he g = record
    { settled = settled; larger = k.larger }
  where
    settled : fresh ≡ false → (t1 ≡ t0) × ((h : Cells) → Star (IsAmong n parts) (AtomHolds (found_if_asked n t0) s e x)
        h → IsAmong n out h)
    settled z =
        let r = k.settled z in
        let same : t1 ≡ t0 = r.0 in
        let v : vs ≡ values s e ts = ve ∙ ap (values s e) ue in
        let asked : IsQuestion t0.questions q p (values s e ts) = subst (λ y. IsQuestion t0.questions q p y) v r.1 in
        let w : heaps_in (slice_get t0.found q) ≡ heaps = sym
        (he ∙ ap (λ (y : Findings). heaps_in (slice_get y.found q)) same) in (
          same,
          λ h o.
              let o' : Star (IsAmong n parts) (found_if_asked n t0 p (values s e ts)) h = subst
              (λ y. Star (IsAmong n parts) (AtomHolds (found_if_asked n t0) s e y) h) xe o in
              g h (star_map (λ c m. m) (λ c f. subst (λ hs. IsAmong n hs c) w (f q asked)) o'),
        )

-- ---- a list of atoms

module _ (n : ℕ) (s e : Stack) (xs : List Spatial) where
  -- the heap is a union of one of these and one that holds of what is left of the atoms
  abbrev pub Left : Findings → List Cells → ℕ → Type 0
  Left t heaps i = (h : Cells) → SpatialHolds (λ _. found_if_asked n t) s e xs h
      → Star (IsAmong n heaps) (SpatialHolds (λ _. found_if_asked n t) s e (drop i xs)) h

  pub left_first : (t : Findings) (heaps : List Cells) → heaps ≡ no_cells ∷ [] → Left t heaps 0
  left_first t heaps e0 h o = record {
    part = no_cells;
    rest = h;
    union = empty_union h;
    first = subst (λ hs. IsAmong n hs no_cells) (sym e0) (inl (record { same = λ a l. refl }));
    others = o;
  }

  left_more : (t : Findings) (heaps more : List Cells) (i : ℕ) (x : Spatial) → i < length xs → x ≡ get_or xs i x
      → Left t heaps i → ((h : Cells) → Star (IsAmong n heaps) (AtomHolds (found_if_asked n t) s e x) h
      → IsAmong n more h) → Left t more (i + 1)
  left_more t heaps more i x l is f g h o =
      let d : drop i xs ≡ x ∷ drop (i + 1) xs = rw (add-one, drop-cons xs i x) (ap (λ y. y ∷ drop (suc i) xs) (sym is))
      in
      let a : Star (IsAmong n heaps) (SpatialHolds (λ _. found_if_asked n t) s e (x ∷ drop (i + 1) xs)) h = subst
      (λ ys. Star (IsAmong n heaps) (SpatialHolds (λ _. found_if_asked n t) s e ys) h) d (f h o) in
      star_map g (λ c r. r) (star_assoc_back a)

  pub left_turn : (t0 t1 t2 : Findings) (asked fresh both : Bool) → both ≡ (asked || fresh)
      → (heaps more : List Cells) (i : ℕ) (x : Spatial) → i < length xs → x ≡ get_or xs i x
      → UnlessGrown asked t0 t1 (Left t0 heaps i) → UnlessGrown fresh t1 t2
      ((h : Cells) → Star (IsAmong n heaps) (AtomHolds (found_if_asked n t1) s e x) h → IsAmong n more h)
      → UnlessGrown both t0 t2 (Left t0 more (i + 1))
  left_turn t0 t1 t2 asked fresh both b heaps more i x l is =
      both_steps t0 t1 t2 asked fresh both b (λ t. Left t heaps i)
      (λ t. (h : Cells) → Star (IsAmong n heaps) (AtomHolds (found_if_asked n t) s e x) h → IsAmong n more h)
      (λ t. Left t more (i + 1)) (λ t f g. left_more t heaps more i x l is f g)

  pub left_none : (t0 t1 : Findings) (asked : Bool) (heaps : List Cells) (i : ℕ) → length heaps ≡ 0
      → UnlessGrown asked t0 t1 (Left t0 heaps i) → UnlessGrown asked t0 t1
      ((h : Cells) → SpatialHolds (λ _. found_if_asked n t0) s e xs h → IsAmong n heaps h)
  left_none t0 t1 asked heaps i z = then t0 t1 asked (λ f h o. absurd (no (f h o).part heaps z (f h o).first))
    where
      no : (g : Cells) (hs : List Cells) → length hs ≡ 0 → IsAmong n hs g → ⊥
      no g [] e m = m
      no g (y ∷ ys) e m = omega arith

  pub left_end : (t0 t1 : Findings) (asked : Bool) (heaps : List Cells) (i : ℕ) → length xs ≤ i
      → UnlessGrown asked t0 t1 (Left t0 heaps i) → UnlessGrown asked t0 t1
      ((h : Cells) → SpatialHolds (λ _. found_if_asked n t0) s e xs h → IsAmong n heaps h)
  left_end t0 t1 asked heaps i l = then t0 t1 asked
      (λ f h o. whole h (subst (λ ys. Star (IsAmong n heaps) (SpatialHolds (λ _. found_if_asked n t0) s e ys) h)
      (drop_all i xs l) (f h o)))
    where
      whole : (h : Cells) → Star (IsAmong n heaps) (λ g. g ≡ no_cells) h → IsAmong n heaps h
      whole h o =
          let u : IsUnion o.part no_cells h = subst (λ g. IsUnion o.part g h) o.others o.union in
          subst (IsAmong n heaps) (union_same (union_empty o.part) u) o.first
