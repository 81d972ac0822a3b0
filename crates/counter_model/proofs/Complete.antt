-- Where nothing new is found, all heaps that satisfy the formula are found.
use Rattle.std.proofs.Common.{◌≡◌, ℕ, zero, suc, ◌+◌, ◌≤◌, min, List, [], ◌∷◌, length, map, Bool, true, false, Some}
use Rattle.std.proofs.Common.{refl, sym, ap, ◌∙◌, subst, inl, inr, arith}
use Rattle.std.specs.Prelude.{IsTrue, nat_eq, slice_index}
use Rattle.std.proofs.lemmas.Bool.{eqb-true, eq-eqb}
use Rattle.heap_formula.specs.declared.terms.Term.{Term}
use Rattle.heap_formula.specs.declared.terms.Term.TheVariants.{Nil, Univ, Exist}
use Rattle.heap_formula.specs.declared.atoms.Pure.{Pure}
use Rattle.heap_formula.specs.declared.atoms.Pure.TheVariants.{Eq, Neq}
use Rattle.heap_formula.specs.declared.atoms.Spatial.{Spatial}
use Rattle.heap_formula.specs.declared.atoms.Spatial.TheVariants.{Cell, Pred}
use Rattle.heap_formula.specs.Symbolic.{SymbolicHeap}
use Rattle.heap_formula.specs.Definitions.{Definition}
use Rattle.heap_formula.specs.Words.{Each, OneOf, max_of}
use Rattle.heap_formula.specs.Values.{Stack, value, values}
use Rattle.heap_formula.specs.Fresh.{exist_bound, most_in_pure, most_in_spatial, heap_exists}
use Rattle.heap_formula.specs.Closedness.{InPure, InSpatial, IsUniversal, IsUniversalHeap}
use Rattle.heap_formula.specs.Cells.{Cells, cell_at}
use Rattle.heap_formula.specs.Meaning.{Family, PureHolds, IsCell, AtomHolds, SpatialHolds, CaseHolds, cases_of}
use Rattle.heap_formula.specs.Meaning.{at_stage, least, Satisfies}
use Rattle.heap_formula.proofs.StageLaws.{least_in_closed}
use Rattle.model_check.specs.Constructive.{Known, nil, universal, right_side, left_side, field, IsConstructive}
use Rattle.model_check.specs.Constructive.{AreConstructive, CellFits, Fits, Inside}
use Rattle.cyc_basics.specs.Words.{IsMember}
use Rattle.model_check.proofs.OnlyLocals.{member_each, left_inside, right_inside, inside_all, holds_fits}
use Rattle.model_check.proofs.CaseLists.{constructive_cases}
use Rattle.counter_model.specs.Bounds.{AreAtMost, IsWithin, IsAmong}
use Rattle.counter_model.specs.Findings.{Findings, found_if_asked, FitsCase, IsSettled, UnlessGrown}
use Rattle.heap_formula.proofs.AllMembers.{each_imply}
use Rattle.model_check.proofs.KnownTerms.{in_heap_map, in_pure_map, in_spatial_map}
use Rattle.heap_formula.proofs.FactExistentials.{heap_bounded}

-- ---- values of terms are small

pub part_within : (n : ℕ) (g h : Cells) → Inside g h → IsWithin n h → IsWithin n g
part_within n g h i w = record {
  addresses = λ a vs e. w.addresses a vs (i.same a vs e);
  fields = λ a vs e. w.fields a vs (i.same a vs e);
}

index_small : (n : ℕ) (s : Stack) (k : ℕ) → AreAtMost n s → slice_index s k ≤ n
index_small n [] k a = omega arith
index_small n (v ∷ s) zero a = a.0
index_small n (v ∷ s) (suc k) a = index_small n s k a.1

member_small : (n : ℕ) (f : Term → ℕ) (u : Term) (ts : List Term) → IsMember u ts → AreAtMost n (map f ts) → f u ≤ n
member_small n f u [] m a = absurd m
member_small n f u (t ∷ ts) (inl e) a = subst (λ y. f y ≤ n) e a.0
member_small n f u (t ∷ ts) (inr m) a = member_small n f u ts m a.1

module _ (n : ℕ) (h : Cells) (s e : Stack) (b : SymbolicHeap) (w : IsWithin n h) (z : AreAtMost n s) (f : Fits h s e b)
  where
    pub known_small : (t : Term) → Known b t → value s e t ≤ n
    known_small _ nil = omega arith
    known_small _ (universal k) = index_small n s k z
    known_small _ (right_side t u m k) =
        let x : value s e t ≡ value s e u = member_each (PureHolds s e) (Eq t u) b.pure m f.pure in
        subst (λ y. y ≤ n) x (known_small t k)
    known_small _ (left_side t u m k) =
        let x : value s e t ≡ value s e u = member_each (PureHolds s e) (Eq t u) b.pure m f.pure in
        subst (λ y. y ≤ n) (sym x) (known_small u k)
    known_small _ (field t u ts m i k) =
        let x : cell_at h (value s e t) ≡ Some (values s e ts) = member_each (CellFits h s e) (Cell t ts)
        b.spatial m f.cells in
        member_small n (value s e) u ts i (w.fields (value s e t) (values s e ts) x)

-- ---- other locals with the same values

module _ (P Q : Term → Type 0) where
  both_terms : (ts : List Term) → Each P ts → Each Q ts → Each (λ t. P t × Q t) ts
  both_terms [] a b = tt
  both_terms (t ∷ ts) a b = ((a.0, b.0), both_terms ts a.1 b.1)

  both_pures : (xs : List Pure) → Each (InPure P) xs → Each (InPure Q) xs → Each (InPure (λ t. P t × Q t)) xs
  both_pures [] a b = tt
  both_pures (Eq t u ∷ xs) a b = (((a.0.0, b.0.0), (a.0.1, b.0.1)), both_pures xs a.1 b.1)
  both_pures (Neq t u ∷ xs) a b = (((a.0.0, b.0.0), (a.0.1, b.0.1)), both_pures xs a.1 b.1)

  both_spatials : (xs : List Spatial) → Each (InSpatial P) xs → Each (InSpatial Q) xs
      → Each (InSpatial (λ t. P t × Q t)) xs
  both_spatials [] a b = tt
  both_spatials (Cell t ts ∷ xs) a b = (((a.0.0, b.0.0), both_terms ts a.0.1 b.0.1), both_spatials xs a.1 b.1)
  both_spatials (Pred p ts ∷ xs) a b = (both_terms ts a.0 b.0, both_spatials xs a.1 b.1)

-- the first values, each at most n
lowered : ℕ → ℕ → Stack → Stack
lowered n zero e = []
lowered n (suc k) [] = 0 ∷ lowered n k []
lowered n (suc k) (v ∷ e) = min v n ∷ lowered n k e

lowered_long : (n k : ℕ) (e : Stack) → length (lowered n k e) ≡ k
unfolding lowered
lowered_long n zero e = refl
lowered_long n (suc k) [] = ap suc (lowered_long n k [])
lowered_long n (suc k) (v ∷ e) = ap suc (lowered_long n k e)

lowered_small : (n k : ℕ) (e : Stack) → AreAtMost n (lowered n k e)
unfolding lowered
lowered_small n zero e = tt
lowered_small n (suc k) [] = (omega arith, lowered_small n k [])
lowered_small n (suc k) (v ∷ e) = (omega arith, lowered_small n k e)

lowered_same : (n k : ℕ) (e : Stack) (i : ℕ) → i + 1 ≤ k → slice_index e i ≤ n
    → slice_index e i ≡ slice_index (lowered n k e) i
unfolding lowered
lowered_same n zero e i l m = absurd (omega arith)
lowered_same n (suc k) [] zero l m = refl
lowered_same n (suc k) [] (suc i) l m = lowered_same n k [] i (omega arith) m
lowered_same n (suc k) (v ∷ e) zero l m = let j : v ≤ n = m in omega arith
lowered_same n (suc k) (v ∷ e) (suc i) l m = lowered_same n k e i (omega arith) m

value_same : (n k : ℕ) (s e : Stack) (t : Term) → (value s e t ≤ n) × (exist_bound t ≤ k)
    → (value s e t ≤ n) × (value s e t ≡ value s (lowered n k e) t)
value_same n k s e Nil m = (m.0, refl)
value_same n k s e (Univ i) m = (m.0, refl)
value_same n k s e (Exist i) m = (m.0, lowered_same n k e i m.1 m.0)

-- ---- atoms under other locals and another meaning of the predicates

module _ (n : ℕ) (M : Family) (s e e' : Stack) where
  abbrev IsAlike : Term → Type 0
  IsAlike t = (value s e t ≤ n) × (value s e t ≡ value s e' t)

  values_alike : (ts : List Term) → Each IsAlike ts → AreAtMost n (values s e ts) × (values s e ts ≡ values s e' ts)
  values_alike [] k = (tt, refl)
  values_alike (t ∷ ts) k = let r = values_alike ts k.1 in ((k.0.0, r.0), λ i. k.0.1 i ∷ r.1 i)

  pure_alike : (xs : List Pure) → Each (InPure IsAlike) xs → Each (PureHolds s e) xs → Each (PureHolds s e') xs
  pure_alike [] k a = tt
  pure_alike (Eq t u ∷ xs) k a = (sym k.0.0.1 ∙ a.0 ∙ k.0.1.1, pure_alike xs k.1 a.1)
  pure_alike (Neq t u ∷ xs) k a = (λ x. a.0 (k.0.0.1 ∙ x ∙ sym k.0.1.1), pure_alike xs k.1 a.1)

  atom_alike : (P : Family) → ((p : ℕ) (vs : List ℕ) (g : Cells) → P p vs g → AreAtMost n vs → IsWithin n g → M p vs g)
      → (x : Spatial) (g : Cells) → IsWithin n g → InSpatial IsAlike x → AtomHolds P s e x g → AtomHolds M s e' x g
  atom_alike P f (Cell t ts) g w k a = subst (λ y. IsCell (value s e' t) y g) (values_alike ts k.1).1
      (subst (λ y. IsCell y (values s e ts) g) k.0.1 a)
  atom_alike P f (Pred p ts) g w k a = let r = values_alike ts k in
      subst (λ y. M p y g) r.1 (f p (values s e ts) g a r.0 w)

  pub spatial_alike : (P : ℕ → Family) → ((j p : ℕ) (vs : List ℕ) (g : Cells) → P j p vs g → AreAtMost n vs
      → IsWithin n g → M p vs g) → (xs : List Spatial) (g : Cells) → IsWithin n g → Each (InSpatial IsAlike) xs
      → SpatialHolds P s e xs g → SpatialHolds (λ _. M) s e' xs g
  spatial_alike P f [] g w k a = a
  spatial_alike P f (x ∷ xs) g w k a = record {
    part = a.part;
    rest = a.rest;
    union = a.union;
    first = atom_alike (P 0) (f 0) x a.part (part_within n a.part g (left_inside a.part a.rest g a.union) w)
        k.0 a.first;
    others = spatial_alike (λ j. P (suc j)) (λ j. f (suc j)) xs a.rest
        (part_within n a.rest g (right_inside a.part a.rest g a.union) w) k.1 a.others;
  }

-- ---- completeness

module _ (ds : List Definition) (n : ℕ) (t : Findings) where
  -- the meaning of which the table is closed
  abbrev Means : Family
  Means p vs g = AreAtMost n vs → IsWithin n g → found_if_asked n t p vs g

  case_fits : (vs : List ℕ) (h : Cells) (b : SymbolicHeap) → AreAtMost n vs → IsWithin n h → IsConstructive b
      → CaseHolds Means vs h b → FitsCase n (found_if_asked n t) vs h b
  case_fits vs h b z w k c =
      let fits = holds_fits (λ _. Means) vs c.0 b h h (inside_all h) c.1 in
      let small = in_heap_map (Known b) (λ u. value vs c.0 u ≤ n) (known_small n h vs c.0 b w z fits) b k in
      let below = heap_bounded (heap_exists b) b (omega arith) in
      let e' = lowered n (heap_exists b) c.0 in
      let f = value_same n (heap_exists b) vs c.0 in
      let A = λ (u : Term). (value vs c.0 u ≤ n) × (exist_bound u ≤ heap_exists b) in
      let B = λ (u : Term). (value vs c.0 u ≤ n) × (value vs c.0 u ≡ value vs e' u) in
      let pures = each_imply (InPure A) (InPure B) (in_pure_map A B f) b.pure
      (both_pures (λ u. value vs c.0 u ≤ n) (λ u. exist_bound u ≤ heap_exists b) b.pure small.0 below.0) in
      let spatials = each_imply (InSpatial A) (InSpatial B) (in_spatial_map A B f) b.spatial
      (both_spatials (λ u. value vs c.0 u ≤ n) (λ u. exist_bound u ≤ heap_exists b) b.spatial small.1 below.1) in
      record {
        locals = e';
        long = lowered_long n (heap_exists b) c.0;
        small = lowered_small n (heap_exists b) c.0;
        holds = (
          pure_alike n (found_if_asked n t) vs c.0 e' b.pure pures c.1.0,
          spatial_alike n (found_if_asked n t) vs c.0 e' (λ _. Means) (λ j p us g m a d. m a d)
              b.spatial h w spatials c.1.1,
        );
      }

  cases_fit : (vs : List ℕ) (h : Cells) (bs : List SymbolicHeap) → AreAtMost n vs → IsWithin n h
      → Each IsConstructive bs → OneOf (CaseHolds Means vs h) bs → OneOf (FitsCase n (found_if_asked n t) vs h) bs
  cases_fit vs h [] z w k o = absurd o
  cases_fit vs h (b ∷ bs) z w k (inl c) = inl (case_fits vs h b z w k.0 c)
  cases_fit vs h (b ∷ bs) z w k (inr o) = inr (cases_fit vs h bs z w k.1 o)

  pub all_found : AreConstructive ds → ((q : ℕ) → IsSettled ds n t q) → (p : ℕ) (vs : List ℕ) (g : Cells)
      → least ds p vs g → AreAtMost n vs → IsWithin n g → found_if_asked n t p vs g
  all_found k settled = least_in_closed ds Means (λ p vs h o z w q i.
      settled q p vs i h (cases_fit vs h (cases_of ds p) z w (constructive_cases ds p k) o))

  -- a heap that satisfies a formula without existentials holds of its atoms by what is found
  pub asked_found : AreConstructive ds → ((q : ℕ) → IsSettled ds n t q) → (s : Stack) (h : Cells) (a : SymbolicHeap)
      → AreAtMost n s → IsWithin n h → IsUniversalHeap a → Satisfies ds s h a
      → SpatialHolds (λ _. found_if_asked n t) s [] a.spatial h
  asked_found k settled s h a z w u x =
      let e = x.1.0 in
      let f = λ (v : Term) (i : IsUniversal v). universal_alike v i in
      spatial_alike n (found_if_asked n t) s e [] (λ j. at_stage ds (x.0 j))
      (λ j p vs g m b d. all_found k settled p vs g (x.0 j, m) b d) a.spatial h w
      (each_imply (InSpatial IsUniversal) (InSpatial (λ v. (value s e v ≤ n) × (value s e v ≡ value s [] v)))
      (in_spatial_map IsUniversal (λ v. (value s e v ≤ n) × (value s e v ≡ value s [] v)) f) a.spatial u.1) x.1.1.1
    where
      universal_alike : (v : Term) → IsUniversal v → (value s x.1.0 v ≤ n) × (value s x.1.0 v ≡ value s [] v)
      universal_alike Nil i = (omega arith, refl)
      universal_alike (Univ j) i = (index_small n s j z, refl)
      universal_alike (Exist j) i = absurd i

pub all_among : (ds : List Definition) (n : ℕ) (t0 t1 t2 : Findings) (asked grown : Bool) (s : Stack) (a : SymbolicHeap)
    (xs : List Spatial) (heaps : List Cells) → AreConstructive ds → AreAtMost n s → IsUniversalHeap a → asked ≡ false
    → grown ≡ false → xs ≡ a.spatial → UnlessGrown asked t0 t1
    ((h : Cells) → SpatialHolds (λ _. found_if_asked n t0) s [] xs h → IsAmong n heaps h)
    → UnlessGrown grown t1 t2 ((q : ℕ) → IsSettled ds n t1 q) → (h : Cells) → IsWithin n h → Satisfies ds s h a
    → IsAmong n heaps h
all_among ds n t0 t1 t2 asked grown s a xs heaps k z u ae ge xe f g h w x =
    let first = f.settled ae in
    let settled = subst (λ (t : Findings). (q : ℕ) → IsSettled ds n t q) first.0 (g.settled ge).1 in
    first.1 h (subst (λ ys. SpatialHolds (λ _. found_if_asked n t0) s [] ys h) (sym xe)
    (asked_found ds n t0 k settled s h a z w u x))

pub not_both : (b : Bool) → b ≡ true → b ≡ false → ⊥
not_both b t f = let z : true ≡ false = sym t ∙ f in cc

-- ---- formulas without existentials

universal_zero : (t : Term) → IsUniversal t → exist_bound t ≤ 0
universal_zero Nil i = omega arith
universal_zero (Univ n) i = omega arith
universal_zero (Exist n) i = absurd i

zero_universal : (t : Term) → exist_bound t ≤ 0 → IsUniversal t
zero_universal Nil l = tt
zero_universal (Univ n) l = tt
zero_universal (Exist n) l = omega arith

max_zero : {X : Type 0} (f : X → ℕ) (P : X → Type 0) → ((x : X) → P x → f x ≤ 0) → (xs : List X) → Each P xs
    → max_of (map f xs) ≤ 0
max_zero f P g [] k = omega arith
max_zero f P g (x ∷ xs) k = let a : f x ≤ 0 = g x k.0 in let b : max_of (map f xs) ≤ 0 = max_zero f P g xs k.1 in
    omega arith

pure_zero : (x : Pure) → InPure IsUniversal x → most_in_pure exist_bound x ≤ 0
pure_zero (Eq t u) k = let a = universal_zero t k.0 in let b = universal_zero u k.1 in omega arith
pure_zero (Neq t u) k = let a = universal_zero t k.0 in let b = universal_zero u k.1 in omega arith

spatial_zero : (x : Spatial) → InSpatial IsUniversal x → most_in_spatial exist_bound x ≤ 0
spatial_zero (Cell t ts) k =
    let a = universal_zero t k.0 in let b = max_zero exist_bound IsUniversal universal_zero ts k.1 in omega arith
spatial_zero (Pred p ts) k = max_zero exist_bound IsUniversal universal_zero ts k

pub none_exist : (a : SymbolicHeap) → IsUniversalHeap a → heap_exists a ≡ 0
none_exist a k =
    let p = max_zero (most_in_pure exist_bound) (InPure IsUniversal) pure_zero a.pure k.0 in
    let q = max_zero (most_in_spatial exist_bound) (InSpatial IsUniversal) spatial_zero a.spatial k.1 in
    omega arith

pub all_universal : (a : SymbolicHeap) → heap_exists a ≡ 0 → IsUniversalHeap a
all_universal a e = in_heap_map (λ t. exist_bound t ≤ 0) IsUniversal zero_universal a (heap_bounded 0 a (omega arith))

pub universal_test : (a : SymbolicHeap) (n : ℕ) (b : Bool) → n ≡ heap_exists a → b ≡ nat_eq n 0
    → (IsTrue b → IsUniversalHeap a) × (IsUniversalHeap a → IsTrue b)
universal_test a n b e t = (
  λ i. all_universal a (sym e ∙ eqb-true n 0 (sym t ∙ i)),
  λ u. t ∙ eq-eqb n 0 (e ∙ none_exist a u),
)
