-- Facts of each term of a heap are facts of the terms of its combinations.
use Rattle.std.proofs.Common.{ℕ, zero, suc, ◌≤◌, inl, inr, List, [], ◌∷◌, map, arith, subst}
use Rattle.std.specs.Prelude.{slice_index}
use Rattle.heap_formula.specs.declared.terms.Term.{Term}
use Rattle.heap_formula.specs.declared.terms.Term.TheVariants.{Nil}
use Rattle.heap_formula.specs.declared.atoms.Spatial.{Spatial}
use Rattle.heap_formula.specs.declared.atoms.Spatial.TheVariants.{Cell, Pred}
use Rattle.heap_formula.specs.declared.atoms.Pure.{Pure}
use Rattle.heap_formula.specs.declared.atoms.Pure.TheVariants.{Eq, Neq}
use Rattle.heap_formula.specs.Symbolic.{SymbolicHeap}
use Rattle.heap_formula.specs.Words.{Each, max_of}
use Rattle.heap_formula.specs.Closedness.{InPure, InSpatial, InHeap}
use Rattle.pair_family.specs.BasePairs.{BasePair, element}
use Rattle.pair_family.specs.Combination.{Two, Choice, next, pure_equations, pure_differences, atom_equations}
use Rattle.pair_family.specs.Combination.{atom_differences, atom_addresses, spatial_equations, spatial_differences}
use Rattle.pair_family.specs.Combination.{addresses, each_two, cell_differences, against_nil, combination, all_differ}
use Rattle.pair_family.specs.Folding.{spoken}
use Rattle.pair_family.proofs.Lists.{in_append, map_in}
use Rattle.cyc_basics.specs.Words.{IsMember}
use Rattle.pair_family.proofs.Two.{two_in}
use Rattle.heap_formula.specs.Fresh.{number_bound, terms_numbers, pure_numbers, spatial_numbers, heap_numbers}

module _ (Q : Term → Type 0) (nil : Q Nil) where
  element_in : (ts : List Term) → Each Q ts → (i : ℕ) → Q (element ts i)
  element_in ts a zero = nil
  element_in [] a (suc i) = nil
  element_in (t ∷ ts) a (suc zero) = a.0
  element_in (t ∷ ts) a (suc (suc i)) = element_in ts a.1 (suc i)

  abbrev pub BothIn : Two → Type 0
  BothIn q = Q q.0 × Q q.1

  arguments_in : (ts : List Term) → Each Q ts → (qs : List (ℕ × ℕ)) (q : Two)
      → IsMember q (map (λ q. (element ts q.0, element ts q.1)) qs) → BothIn q
  arguments_in ts a qs q m =
      let r = map_in (λ q. (element ts q.0, element ts q.1)) q qs m in
      subst (λ z. Q z.0 × Q z.1) r.2 (element_in ts a r.0.0, element_in ts a r.0.1)

  pub atom_equations_in : (x : Spatial) → Each Q (spoken x) → (b : BasePair) (q : Two) → IsMember q (atom_equations b x)
      → BothIn q
  atom_equations_in (Cell t ts) a b q m = absurd m
  atom_equations_in (Pred p ts) a b q m = arguments_in ts a b.same q m

  pub atom_differences_in : (x : Spatial) → Each Q (spoken x) → (b : BasePair) (q : Two)
      → IsMember q (atom_differences b x) → BothIn q
  atom_differences_in (Cell t ts) a b q m = absurd m
  atom_differences_in (Pred p ts) a b q m = arguments_in ts a b.differ q m

  pub atom_addresses_in : (x : Spatial) → Each Q (spoken x) → (b : BasePair) (t : Term)
      → IsMember t (atom_addresses b x) → Q t
  atom_addresses_in (Cell t ts) a b u (inl r) = subst Q r a.0
  atom_addresses_in (Cell t ts) a b u (inr m) = absurd m
  atom_addresses_in (Pred p ts) a b u m = let r = map_in (element ts) u b.cells m in subst Q r.2 (element_in ts a r.0)

  spoken_in : (x : Spatial) → InSpatial Q x → Each Q (spoken x)
  spoken_in (Cell t ts) a = (a.0, tt)
  spoken_in (Pred p ts) a = a

  spatial_equations_in : (xs : List Spatial) → Each (InSpatial Q) xs → (bs : Choice) (q : Two)
      → IsMember q (spatial_equations bs xs) → BothIn q
  spatial_equations_in [] a bs q m = absurd m
  spatial_equations_in (x ∷ xs) a bs q m =
      elim (in_append q (atom_equations (bs 0) x) (spatial_equations (next bs) xs) m) [
        | inl i ↦ atom_equations_in x (spoken_in x a.0) (bs 0) q i
        | inr i ↦ spatial_equations_in xs a.1 (next bs)
            q i
      ]

  spatial_differences_in : (xs : List Spatial) → Each (InSpatial Q) xs → (bs : Choice) (q : Two)
      → IsMember q (spatial_differences bs xs) → BothIn q
  spatial_differences_in [] a bs q m = absurd m
  spatial_differences_in (x ∷ xs) a bs q m =
      elim (in_append q (atom_differences (bs 0) x) (spatial_differences (next bs) xs) m) [
        | inl i ↦ atom_differences_in x (spoken_in x a.0) (bs 0) q i
        | inr i ↦ spatial_differences_in xs a.1 (next bs)
            q i
      ]

  pub addresses_in : (xs : List Spatial) → Each (InSpatial Q) xs → (bs : Choice) (t : Term)
      → IsMember t (addresses bs xs) → Q t
  addresses_in [] a bs t m = absurd m
  addresses_in (x ∷ xs) a bs t m =
      elim (in_append t (atom_addresses (bs 0) x) (addresses (next bs) xs) m)
      [ inl i ↦ atom_addresses_in x (spoken_in x a.0) (bs 0) t i | inr i ↦ addresses_in xs a.1 (next bs) t i ]

  pure_equations_in : (ps : List Pure) → Each (InPure Q) ps → (q : Two) → IsMember q (pure_equations ps) → BothIn q
  pure_equations_in [] a q m = absurd m
  pure_equations_in (Eq t u ∷ ps) a q (inl r) = subst (λ z. Q z.0 × Q z.1) r a.0
  pure_equations_in (Eq t u ∷ ps) a q (inr m) = pure_equations_in ps a.1 q m
  pure_equations_in (Neq t u ∷ ps) a q m = pure_equations_in ps a.1 q m

  pure_differences_in : (ps : List Pure) → Each (InPure Q) ps → (q : Two) → IsMember q (pure_differences ps) → BothIn q
  pure_differences_in [] a q m = absurd m
  pure_differences_in (Neq t u ∷ ps) a q (inl r) = subst (λ z. Q z.0 × Q z.1) r a.0
  pure_differences_in (Neq t u ∷ ps) a q (inr m) = pure_differences_in ps a.1 q m
  pure_differences_in (Eq t u ∷ ps) a q m = pure_differences_in ps a.1 q m

  pub equations_in : (a : SymbolicHeap) → InHeap Q a → (bs : Choice) (q : Two) → IsMember q (combination bs a).equal
      → Q q.0 × Q q.1
  equations_in a o bs q m =
      elim (in_append q (pure_equations a.pure) (spatial_equations bs a.spatial) m)
      [ inl i ↦ pure_equations_in a.pure o.0 q i | inr i ↦ spatial_equations_in a.spatial o.1 bs q i ]

  pub differences_in : (a : SymbolicHeap) → InHeap Q a → (bs : Choice) (q : Two)
      → IsMember q (all_differ (combination bs a)) → Q q.0 × Q q.1
  differences_in a o bs q m =
      let cs = addresses bs a.spatial in
      elim (in_append q (combination bs a).differ (cell_differences cs) m) [
        | inl n ↦ elim (in_append q (pure_differences a.pure) (spatial_differences bs a.spatial) n) [
          | inl i ↦ pure_differences_in a.pure o.0 q i
          | inr i ↦ spatial_differences_in a.spatial o.1 bs q i
        ]
        | inr j ↦ elim (in_append q (against_nil cs) (each_two cs) j) [
          | inl i ↦ (let r = map_in (λ t. (t, Nil)) q cs i in
              subst (λ z. Q z.0 × Q z.1) r.2 (addresses_in a.spatial o.1 bs r.0 r.1, nil))
          | inr i ↦ (let r = two_in q cs i in (
            addresses_in a.spatial o.1 bs q.0 r.0,
            addresses_in a.spatial o.1 bs q.1 r.1,
          ))
        ]
      ]

-- ---- two facts of each term give a third

module _ (P Q S : Term → Type 0) (go : (t : Term) → P t → Q t → S t) where
  terms_go : (ts : List Term) → Each P ts → Each Q ts → Each S ts
  terms_go [] a b = tt
  terms_go (t ∷ ts) a b = (go t a.0 b.0, terms_go ts a.1 b.1)

  pure_go : (ps : List Pure) → Each (InPure P) ps → Each (InPure Q) ps → Each (InPure S) ps
  pure_go [] a b = tt
  pure_go (Eq t u ∷ ps) a b = ((go t a.0.0 b.0.0, go u a.0.1 b.0.1), pure_go ps a.1 b.1)
  pure_go (Neq t u ∷ ps) a b = ((go t a.0.0 b.0.0, go u a.0.1 b.0.1), pure_go ps a.1 b.1)

  spatial_go : (xs : List Spatial) → Each (InSpatial P) xs → Each (InSpatial Q) xs → Each (InSpatial S) xs
  spatial_go [] a b = tt
  spatial_go (Cell t ts ∷ xs) a b = ((go t a.0.0 b.0.0, terms_go ts a.0.1 b.0.1), spatial_go xs a.1 b.1)
  spatial_go (Pred p ts ∷ xs) a b = (terms_go ts a.0 b.0, spatial_go xs a.1 b.1)

  pub heap_go : (a : SymbolicHeap) → InHeap P a → InHeap Q a → InHeap S a
  heap_go a p q = (pure_go a.pure p.0 q.0, spatial_go a.spatial p.1 q.1)

-- ---- a bound of a heap's variable numbers

abbrev pub IsWithin : ℕ → Term → Type 0
IsWithin m t = number_bound t ≤ m

terms_within : (m : ℕ) (ts : List Term) → terms_numbers ts ≤ m → Each (IsWithin m) ts
terms_within m [] h = tt
terms_within m (t ∷ ts) h = (omega arith, terms_within m ts (omega arith))

pures_within : (m : ℕ) (ps : List Pure) → max_of (map pure_numbers ps) ≤ m → Each (InPure (IsWithin m)) ps
pures_within m [] h = tt
pures_within m (Eq t u ∷ ps) h = ((omega arith, omega arith), pures_within m ps (omega arith))
pures_within m (Neq t u ∷ ps) h = ((omega arith, omega arith), pures_within m ps (omega arith))

spatials_within : (m : ℕ) (xs : List Spatial) → max_of (map spatial_numbers xs) ≤ m → Each (InSpatial (IsWithin m)) xs
spatials_within m [] h = tt
spatials_within m (Cell t ts ∷ xs) h = (
  (omega arith, terms_within m ts (omega arith)),
  spatials_within m xs (omega arith),
)
spatials_within m (Pred p ts ∷ xs) h = (terms_within m ts (omega arith), spatials_within m xs (omega arith))

pub heap_within : (a : SymbolicHeap) → InHeap (IsWithin (heap_numbers a)) a
heap_within a = (
  pures_within (heap_numbers a) a.pure (omega arith),
  spatials_within (heap_numbers a) a.spatial (omega arith),
)

-- ---- bounds of lists

-- a bound of a list's numbers
pub in_max : (xs : List ℕ) (x : ℕ) → IsMember x xs → x ≤ max_of xs
in_max [] x m = absurd m
in_max (y ∷ xs) x (inl r) = omega arith
in_max (y ∷ xs) x (inr m) = let l = in_max xs x m in omega arith

pub index_max : (xs : List ℕ) (i : ℕ) → slice_index xs i ≤ max_of xs
index_max [] i = omega arith
index_max (x ∷ xs) zero = omega arith
index_max (x ∷ xs) (suc i) = let l = index_max xs i in omega arith
