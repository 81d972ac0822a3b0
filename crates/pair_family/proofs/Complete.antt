-- What satisfies a heap gives base pairs whose combination is consistent.
use Rattle.std.proofs.Common.{◌≡◌, ◌≢◌, ℕ, zero, suc, ◌<◌, inl, inr, List, [], ◌∷◌, ◌++◌, cond, Some, arith, sym, refl}
use Rattle.std.proofs.Common.{ap, ◌∙◌, subst}
use Rattle.std.proofs.Math.ListN.{get_or-map}
use Rattle.heap_formula.specs.declared.terms.Term.{Term}
use Rattle.heap_formula.specs.declared.terms.Term.TheVariants.{Nil}
use Rattle.heap_formula.specs.Words.{Each, OneOf}
use Rattle.heap_formula.specs.Values.{Stack, value, values}
use Rattle.heap_formula.specs.declared.atoms.Spatial.{Spatial}
use Rattle.heap_formula.specs.declared.atoms.Spatial.TheVariants.{Cell, Pred}
use Rattle.heap_formula.specs.declared.atoms.Pure.{Pure}
use Rattle.heap_formula.specs.declared.atoms.Pure.TheVariants.{Eq, Neq}
use Rattle.heap_formula.specs.Symbolic.{SymbolicHeap}
use Rattle.heap_formula.specs.Definitions.{Definition}
use Rattle.heap_formula.specs.Cells.{Cells, cell_at, no_cells, one_cell, Star}
use Rattle.heap_formula.specs.Meaning.{Family, PureHolds, AtomHolds, SpatialHolds, Holds, CaseHolds, cases_of, at_stage}
use Rattle.heap_formula.specs.Meaning.{least, Satisfies}
use Rattle.std.specs.FinMap.{empty, get-insert}
use Rattle.std.specs.Cmp.{nat_cmp_total, eq_by_cmp_equiv}
use Rattle.heap_formula.proofs.StageLaws.{holds_within}
use Rattle.pair_family.specs.BasePairs.{BasePair, element, entry, parameter, Respects, no_pair}
use Rattle.pair_family.specs.Classes.{class_of}
use Rattle.pair_family.specs.Combination.{Two, Choice, pure_equations, pure_differences, atom_equations}
use Rattle.pair_family.specs.Combination.{atom_differences, atom_addresses, spatial_equations, spatial_differences}
use Rattle.pair_family.specs.Combination.{addresses, each_two, cell_differences, against_nil, IsConsistent, projection}
use Rattle.pair_family.specs.Combination.{combination, all_differ}
use Rattle.pair_family.specs.Family.{PairFamily, IsChosenAt, IsChosen, CaseGives, arity_of, family_at, InFamily}
use Rattle.pair_family.specs.Family.{IsCombinable}
use Rattle.pair_family.proofs.Lists.{at_each, each_at, in_left, in_right, in_append, in_map, map_in}
use Rattle.cyc_basics.specs.Words.{IsMember}
use Rattle.pair_family.proofs.Two.{two_append, map_two}
use Rattle.pair_family.proofs.Classes.{classes_least}
use Rattle.pair_family.proofs.Joining.{Has, both_has, joins_both, joins_left, joins_right}
use Rattle.pair_family.proofs.Kept.{kept_same, kept_differ, kept_cell, kept_cells_apart}

pub entry_value : (s e : Stack) (ts : List Term) (i : ℕ) → entry (values s e ts) i ≡ value s e (element ts i)
entry_value s e ts zero = refl
entry_value s e ts (suc i) = get_or-map (value s e) ts i Nil

pub parameter_value : (vs e : Stack) (i : ℕ) → value vs e (parameter i) ≡ entry vs i
parameter_value vs e zero = refl
parameter_value vs e (suc i) = refl

-- ---- what a base pair says of values and a heap that a predicate holds of

-- values have the equations and differences of a base pair among M, and its cells are in the heap
pub record Known (M : BasePair → Type 0) (vs : List ℕ) (h : Cells) : Type 0 where
  pub pair : BasePair
  pub member : M pair
  pub respects : Respects pair vs
  pub has : (c : ℕ) → IsMember c pair.cells → Has (cell_at h (entry vs c))
  pub positive : (c : ℕ) → IsMember c pair.cells → 0 < entry vs c
  pub apart : (q : ℕ × ℕ) → IsMember q (each_two pair.cells) → entry vs q.0 ≢ entry vs q.1

known_map : {M N : BasePair → Type 0} {vs : List ℕ} {h : Cells} → ((b : BasePair) → M b → N b) → Known M vs h
    → Known N vs h
known_map f a = record {
  pair = a.pair;
  member = f a.pair a.member;
  respects = a.respects;
  has = a.has;
  positive = a.positive;
  apart = a.apart;
}

-- the same of an atom
record KnownAtom (G : PairFamily) (s e : Stack) (x : Spatial) (h : Cells) : Type 0 where
  pair : BasePair
  member : IsChosenAt G pair x
  equal : (q : Two) → IsMember q (atom_equations pair x) → value s e q.0 ≡ value s e q.1
  differ : (q : Two) → IsMember q (atom_differences pair x) → value s e q.0 ≢ value s e q.1
  has : (t : Term) → IsMember t (atom_addresses pair x) → Has (cell_at h (value s e t))
  positive : (t : Term) → IsMember t (atom_addresses pair x) → 0 < value s e t
  apart : (q : Two) → IsMember q (each_two (atom_addresses pair x)) → value s e q.0 ≢ value s e q.1

-- and of a spatial list
pub record KnownList (G : PairFamily) (s e : Stack) (xs : List Spatial) (h : Cells) : Type 0 where
  pub chosen : Choice
  pub member : IsChosen G chosen xs
  pub equal : (q : Two) → IsMember q (spatial_equations chosen xs) → value s e q.0 ≡ value s e q.1
  pub differ : (q : Two) → IsMember q (spatial_differences chosen xs) → value s e q.0 ≢ value s e q.1
  pub has : (t : Term) → IsMember t (addresses chosen xs) → Has (cell_at h (value s e t))
  pub positive : (t : Term) → IsMember t (addresses chosen xs) → 0 < value s e t
  pub apart : (q : Two) → IsMember q (each_two (addresses chosen xs)) → value s e q.0 ≢ value s e q.1

abbrev pub cons_choice : BasePair → Choice → Choice
cons_choice b bs zero = b
cons_choice b bs (suc k) = bs k

one_cell_has : (a : ℕ) (vs : List ℕ) (h : Cells) → h ≡ one_cell a vs → Has (cell_at h a)
one_cell_has a vs h e =
    let g : cell_at h a ≡ Some vs = ap (λ x. cell_at x a) e ∙ get-insert nat_cmp_total empty a vs a
    ∙ ap (λ b. cond b (Some vs) (cell_at no_cells a)) ((eq_by_cmp_equiv nat_cmp_total).refl a) in
    subst Has (sym g) tt

module _ (F : Family) (G : PairFamily) (K : (p : ℕ) (vs : List ℕ) (h : Cells) → F p vs h → Known (G p) vs h)
    (s e : Stack) where
  known_atom : (x : Spatial) (h : Cells) → AtomHolds F s e x h → KnownAtom G s e x h
  known_atom (Cell t ts) h a = record {
    pair = no_pair;
    member = tt;
    equal = λ q m. absurd m;
    differ = λ q m. absurd m;
    has = λ u m. elim m [
      | inl r ↦ subst (λ w. Has (cell_at h (value s e w))) r
          (one_cell_has (value s e t) (values s e ts) h a.2)
      | inr no' ↦ absurd no'
    ];
    positive = λ u m. elim m [ inl r ↦ subst (λ w. 0 < value s e w) r a.0 | inr no' ↦ absurd no' ];
    apart = λ q m. absurd m;
  }
  known_atom (Pred p ts) h a =
      let k = K p (values s e ts) h a in
      let at = λ (i : ℕ). entry_value s e ts i in
      record {
        pair = k.pair;
        member = k.member;
        equal = λ q m. let r = map_in (λ q. (element ts q.0, element ts q.1)) q k.pair.same m in
            subst (λ z. value s e z.0 ≡ value s e z.1) r.2
            (sym (at r.0.0) ∙ each_at (λ q. entry (values s e ts) q.0 ≡ entry (values s e ts) q.1)
            k.pair.same r.0 k.respects.equal r.1 ∙ at r.0.1);
        differ = λ q m. let r = map_in (λ q. (element ts q.0, element ts q.1)) q k.pair.differ m in
            subst (λ z. value s e z.0 ≢ value s e z.1) r.2
            (λ w. each_at (λ q. entry (values s e ts) q.0 ≢ entry (values s e ts) q.1)
            k.pair.differ r.0 k.respects.apart r.1 (at r.0.0 ∙ w ∙ sym (at r.0.1)));
        has = λ t m. let r = map_in (element ts) t k.pair.cells m in
            subst (λ z. Has (cell_at h (value s e z))) r.2 (subst (λ z. Has (cell_at h z)) (at r.0) (k.has r.0 r.1));
        positive = λ t m. let r = map_in (element ts) t k.pair.cells m in
            subst (λ z. 0 < value s e z) r.2 (subst (λ z. 0 < z) (at r.0) (k.positive r.0 r.1));
        apart = λ q m. let r = map_two (element ts) q k.pair.cells m in
            λ w. k.apart r.0 r.1 (at r.0.0 ∙ ap (value s e) r.2 ∙ w ∙ sym (ap (value s e) r.3) ∙ sym (at r.0.1));
      }

  pub known_list : (xs : List Spatial) (h : Cells) → SpatialHolds (λ _. F) s e xs h → KnownList G s e xs h
  known_list [] h a = record {
    chosen = λ k. no_pair;
    member = tt;
    equal = λ q m. absurd m;
    differ = λ q m. absurd m;
    has = λ q m. absurd m;
    positive = λ q m. absurd m;
    apart = λ q m. absurd m;
  }
  known_list (x ∷ xs) h a = both x xs h a (known_atom x a.part a.first) (known_list xs a.rest a.others)
    where
      both : (x : Spatial) (xs : List Spatial) (h : Cells)
          (a : Star (AtomHolds F s e x) (SpatialHolds (λ _. F) s e xs) h) → KnownAtom G s e x a.part
          → KnownList G s e xs a.rest → KnownList G s e (x ∷ xs) h
      both x xs h a l r = record {
        chosen = cons_choice l.pair r.chosen;
        member = (l.member, r.member);
        equal = λ q m. elim (in_append q (atom_equations l.pair x) (spatial_equations r.chosen xs) m)
            [ inl i ↦ l.equal q i | inr i ↦ r.equal q i ];
        differ = λ q m. elim (in_append q (atom_differences l.pair x) (spatial_differences r.chosen xs) m)
            [ inl i ↦ l.differ q i | inr i ↦ r.differ q i ];
        has = λ t m. elim (in_append t (atom_addresses l.pair x) (addresses r.chosen xs) m) [
          | inl i ↦ joins_left _ _ _ (a.union.joins (value s e t)) (l.has t i)
          | inr i ↦ joins_right _ _ _ (a.union.joins (value s e t)) (r.has t i)
        ];
        positive = λ t m. elim (in_append t (atom_addresses l.pair x) (addresses r.chosen xs) m)
            [ inl i ↦ l.positive t i | inr i ↦ r.positive t i ];
        apart = λ q m. elim (two_append q (atom_addresses l.pair x) (addresses r.chosen xs) m) [
          | inl i ↦ l.apart q i
          | inr o ↦ elim o [
            | inl i ↦ λ w. joins_both _ _ _ (a.union.joins (value s e q.0))
                (both_has _ _ (l.has q.0 i.0) (subst (λ z. Has (cell_at a.rest z)) (sym w) (r.has q.1 i.1)))
            | inr i ↦ r.apart q i
          ]
        ];
      }

  pure_equal : (ps : List Pure) → Each (PureHolds s e) ps → (q : Two) → IsMember q (pure_equations ps)
      → value s e q.0 ≡ value s e q.1
  pure_equal [] a q m = absurd m
  pure_equal (Eq t u ∷ ps) a q (inl r) = subst (λ z. value s e z.0 ≡ value s e z.1) r a.0
  pure_equal (Eq t u ∷ ps) a q (inr m) = pure_equal ps a.1 q m
  pure_equal (Neq t u ∷ ps) a q m = pure_equal ps a.1 q m

  pure_differ : (ps : List Pure) → Each (PureHolds s e) ps → (q : Two) → IsMember q (pure_differences ps)
      → value s e q.0 ≢ value s e q.1
  pure_differ [] a q m = absurd m
  pure_differ (Eq t u ∷ ps) a q m = pure_differ ps a.1 q m
  pure_differ (Neq t u ∷ ps) a q (inl r) = subst (λ z. value s e z.0 ≢ value s e z.1) r a.0
  pure_differ (Neq t u ∷ ps) a q (inr m) = pure_differ ps a.1 q m

  -- a choice of base pairs whose combination with the heap is true of the values
  record KnownHeap (a : SymbolicHeap) (h : Cells) : Type 0 where
    chosen : Choice
    member : IsChosen G chosen a.spatial
    equal : (q : Two) → IsMember q ((combination chosen a).equal) → value s e q.0 ≡ value s e q.1
    differ : (q : Two) → IsMember q (all_differ (combination chosen a)) → value s e q.0 ≢ value s e q.1
    has : (t : Term) → IsMember t (addresses chosen a.spatial) → Has (cell_at h (value s e t))

  known_heap : (a : SymbolicHeap) (h : Cells) → Holds (λ _. F) s e a h → KnownHeap a h
  known_heap a h o =
      let l = known_list a.spatial h o.1 in
      record {
        chosen = l.chosen;
        member = l.member;
        equal = λ q m. elim (in_append q (pure_equations a.pure) (spatial_equations l.chosen a.spatial) m)
            [ inl i ↦ pure_equal a.pure o.0 q i | inr i ↦ l.equal q i ];
        differ = λ q m. elim (in_append q (pure_differences a.pure ++ spatial_differences l.chosen a.spatial)
            (cell_differences (addresses l.chosen a.spatial)) m) [
              | inl n ↦ elim (in_append q (pure_differences a.pure) (spatial_differences l.chosen a.spatial) n) [
                | inl i ↦ pure_differ a.pure o.0 q i
                | inr i ↦ l.differ q i
              ]
              | inr j ↦ elim (in_append q (against_nil (addresses l.chosen a.spatial))
                  (each_two (addresses l.chosen a.spatial)) j) [
                    | inl i ↦
                        (let r = map_in (λ t. (t, Nil)) q (addresses l.chosen a.spatial) i in
                        subst (λ z. value s e z.0 ≢ value s e z.1) r.2 (λ w. let p = l.positive r.0 r.1 in omega arith))
                    | inr i ↦ l.apart q i
                  ]
            ];
        has = l.has;
      }

  -- values that have the equations have what the classes join
  module _ (a : SymbolicHeap) (h : Cells) (k : KnownHeap a h) where
    joined : (t u : Term) → class_of ((combination k.chosen a).equal) t ≡ class_of ((combination k.chosen a).equal) u
        → value s e t ≡ value s e u
    joined t u c = classes_least (value s e) ((combination k.chosen a).equal)
        (at_each (λ q. value s e q.0 ≡ value s e q.1) ((combination k.chosen a).equal) k.equal) t u c

    known_consistent : IsConsistent k.chosen a
    known_consistent = at_each (λ q. class_of ((combination k.chosen a).equal) q.0 ≢ class_of
        ((combination k.chosen a).equal) q.1) (all_differ (combination k.chosen a))
        (λ q m c. k.differ q m (joined q.0 q.1 c))

-- a case that holds gives a base pair
known_case : (F : Family) (G : PairFamily) → ((p : ℕ) (vs : List ℕ) (h : Cells) → F p vs h → Known (G p) vs h)
    → (n : ℕ) (vs : List ℕ) (h : Cells) (a : SymbolicHeap) → CaseHolds F vs h a → Known (λ b. CaseGives G n b a) vs h
known_case F G K n vs h a o =
    let k = known_heap F G K vs o.0 a h o.1 in
    let f = class_of ((combination k.chosen a).equal) in
    let ds = all_differ (combination k.chosen a) in
    let cs = addresses k.chosen a.spatial in
    let v = value vs o.0 in
    let J = joined F G K vs o.0 a h k in
    let against = λ (t : Term) (m : IsMember t cs). in_right (t, Nil) (combination k.chosen a).differ
    (cell_differences cs) (in_left (t, Nil) (against_nil cs) (each_two cs) (in_map (λ t. (t, Nil)) t cs m)) in
    let two = λ (q : Two) (m : IsMember q (each_two cs)). k.differ q
    (in_right q (combination k.chosen a).differ (cell_differences cs) (in_right q (against_nil cs) (each_two cs) m))
    in
    let is = parameter_value vs o.0 in
    record {
      pair = projection n k.chosen a;
      member = record {
        chosen = k.chosen;
        from_family = k.member;
        consistent = known_consistent F G K vs o.0 a h k;
        projected = refl;
      };
      respects = record {
        equal = at_each (λ q. entry vs q.0 ≡ entry vs q.1) (projection n k.chosen a).same
            (kept_same n parameter f ds cs v (entry vs) is J k.differ two);
        apart = at_each (λ q. entry vs q.0 ≢ entry vs q.1) (projection n k.chosen a).differ
            (kept_differ n parameter f ds cs v (entry vs) is J k.differ two);
      };
      has = λ c m. let r = kept_cell n parameter f ds cs v (entry vs) is J k.differ two c m in
          subst (λ z. Has (cell_at h z)) r.2 (k.has r.0 r.1);
      positive = λ c m. let r = kept_cell n parameter f ds cs v (entry vs) is J k.differ two c m in
          subst (λ z. 0 < z) r.2 (let d = k.differ (r.0, Nil) (against r.0 r.1) in omega arith);
      apart = kept_cells_apart n parameter f ds cs v (entry vs) is J k.differ two;
    }

known_cases : (F : Family) (G : PairFamily) → ((p : ℕ) (vs : List ℕ) (h : Cells) → F p vs h → Known (G p) vs h)
    → (n : ℕ) (vs : List ℕ) (h : Cells) (cs : List SymbolicHeap) → OneOf (CaseHolds F vs h) cs
    → Known (λ b. OneOf (CaseGives G n b) cs) vs h
known_cases F G K n vs h [] o = absurd o
known_cases F G K n vs h (a ∷ cs) (inl o) = known_map (λ b m. inl m) (known_case F G K n vs h a o)
known_cases F G K n vs h (a ∷ cs) (inr o) = known_map (λ b m. inr m) (known_cases F G K n vs h cs o)

-- what a predicate holds of at stage n has a base pair of round n
pub known_at : (ds : List Definition) (n p : ℕ) (vs : List ℕ) (h : Cells) → at_stage ds n p vs h
    → Known (family_at ds n p) vs h
known_at ds zero p vs h o = absurd o
known_at ds (suc n) p vs h o = known_cases (at_stage ds n) (family_at ds n) (known_at ds n) (arity_of ds p) vs h
    (cases_of ds p) o

pub known_least : (ds : List Definition) (p : ℕ) (vs : List ℕ) (h : Cells) → least ds p vs h
    → Known (InFamily ds p) vs h
known_least ds p vs h o = known_map (λ b m. (o.0, m)) (known_at ds o.0 p vs h o.1)

-- completeness: what some stack and heap satisfy is combinable
pub satisfied_combines : (ds : List Definition) (s : Stack) (h : Cells) (a : SymbolicHeap) → Satisfies ds s h a
    → IsCombinable ds a
satisfied_combines ds s h a o =
    let e = o.1.0 in
    let held : Holds (λ _. least ds) s e a h = holds_within (λ k. at_stage ds (o.0 k)) (λ _. least ds)
    (λ k p vs g m. (o.0 k, m)) s e a h o.1.1 in
    let k = known_heap (least ds) (InFamily ds) (known_least ds) s e a h held in
    record {
      chosen = k.chosen;
      from_family = k.member;
      consistent = known_consistent (least ds) (InFamily ds) (known_least ds) s e a h k;
    }
