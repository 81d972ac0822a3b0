-- Each base pair of the family is realised, and each combinable heap satisfied.
use Rattle.std.proofs.Common.{◌≡◌, ◌≢◌, ℕ, zero, suc, ◌<◌, ◌≤◌, max, inl, inr, List, [], ◌∷◌, map, arith, sym, refl}
use Rattle.std.proofs.Common.{◌∙◌, subst}
use Rattle.heap_formula.specs.declared.terms.Term.{Term}
use Rattle.heap_formula.specs.declared.terms.Term.TheVariants.{Nil, Univ, Exist}
use Rattle.heap_formula.specs.declared.atoms.Pure.{Pure}
use Rattle.heap_formula.specs.declared.atoms.Pure.TheVariants.{Eq, Neq}
use Rattle.heap_formula.specs.Symbolic.{SymbolicHeap}
use Rattle.heap_formula.specs.Definitions.{Definition}
use Rattle.heap_formula.specs.Words.{Each, OneOf, max_of}
use Rattle.heap_formula.specs.Closedness.{InHeap}
use Rattle.heap_formula.specs.Values.{Stack, value}
use Rattle.heap_formula.specs.Cells.{Cells}
use Rattle.heap_formula.specs.Meaning.{PureHolds, Holds, CaseHolds, cases_of, at_stage, Satisfies}
use Rattle.pair_family.specs.BasePairs.{BasePair, entry, parameter, Respects}
use Rattle.pair_family.specs.Classes.{class_of}
use Rattle.pair_family.specs.Combination.{Two, Choice, pure_equations, pure_differences, spatial_equations}
use Rattle.pair_family.specs.Combination.{spatial_differences, addresses, each_two, cell_differences, against_nil}
use Rattle.pair_family.specs.Combination.{IsConsistent, kept, projection, combination, all_differ}
use Rattle.pair_family.specs.Family.{PairFamily, IsChosen, CaseGives, arity_of, family_at, InFamily, IsCombinable}
use Rattle.pair_family.specs.Closedness.{HasFields, IsParameterBelow, IsCase, AreCases}
use Rattle.pair_family.proofs.Lists.{each_at, in_left, in_right, in_map, map_in}
use Rattle.cyc_basics.specs.Words.{IsMember, tabulated}
use Rattle.pair_family.proofs.Classes.{classes_have}
use Rattle.pair_family.proofs.Assigned.{worth, worth_same, worth_kept, worth_apart, worth_cell}
use Rattle.pair_family.proofs.Scope.{equations_in, differences_in, addresses_in, heap_go, IsWithin, heap_within, in_max}
use Rattle.pair_family.proofs.Scope.{index_max}
use Rattle.cyc_basics.proofs.Places.{tabulated-at}
use Rattle.heap_formula.specs.Fresh.{heap_numbers}
use Rattle.pair_family.proofs.Sound.{Built, IsRealised, build_list}

entry_max : (vs : List ℕ) (i : ℕ) → entry vs i ≤ max_of vs
entry_max vs zero = omega arith
entry_max vs (suc i) = index_max vs i

pures_hold : (s e : Stack) (ps : List Pure) → ((q : Two) → IsMember q (pure_equations ps)
    → value s e q.0 ≡ value s e q.1) → ((q : Two) → IsMember q (pure_differences ps) → value s e q.0 ≢ value s e q.1)
    → Each (PureHolds s e) ps
pures_hold s e [] equal differ = tt
pures_hold s e (Eq t u ∷ ps) equal differ = (equal (t, u) (inl refl), pures_hold s e ps (λ q i. equal q (inr i)) differ)
pures_hold s e (Neq t u ∷ ps) equal differ = (
  differ (t, u) (inl refl),
  pures_hold s e ps equal (λ q i. differ q (inr i)),
)

module _ (ds : List Definition) (G : PairFamily) (R : (p : ℕ) (b : BasePair) → G p b → IsRealised ds p b) where
  -- values that make a combination true give a heap
  build_heap : (s e : Stack) (a : SymbolicHeap) (bs : Choice) → IsChosen G bs a.spatial → Each HasFields a.spatial
      → ((q : Two) → IsMember q ((combination bs a).equal) → value s e q.0 ≡ value s e q.1)
      → ((q : Two) → IsMember q (all_differ (combination bs a)) → value s e q.0 ≢ value s e q.1) → (w : ℕ)
      → Built (λ n. Holds (λ _. at_stage ds n) s e a) w (map (value s e) (addresses bs a.spatial))
  build_heap s e a bs m fields equal differ w =
      let cs = addresses bs a.spatial in
      let top = suc (max w (max_of (map (value s e) cs))) in
      let pures = pures_hold s e a.pure (λ q i. equal q (in_left q (pure_equations a.pure)
      (spatial_equations bs a.spatial) i)) (λ q i. differ q
      (in_left q (combination bs a).differ (cell_differences cs)
      (in_left q (pure_differences a.pure) (spatial_differences bs a.spatial) i))) in
      let rest = λ (q : Two) (i : IsMember q (cell_differences cs)). differ q
      (in_right q (combination bs a).differ (cell_differences cs) i) in
      let r = build_list ds G R s e a.spatial bs m fields
      (λ q i. equal q (in_right q (pure_equations a.pure) (spatial_equations bs a.spatial) i))
      (λ q i. differ q (in_left q (combination bs a).differ (cell_differences cs)
      (in_right q (pure_differences a.pure) (spatial_differences bs a.spatial) i)))
      (λ t i. let d = rest (t, Nil) (in_left (t, Nil) (against_nil cs) (each_two cs) (in_map (λ t. (t, Nil)) t cs i)) in
      omega arith)
      (λ q i. rest q (in_right q (against_nil cs) (each_two cs) i))
      top
      (λ t i. let l = in_max (map (value s e) cs) (value s e t) (in_map (value s e) t cs i) in omega arith) in
      record {
        stage = r.stage;
        heap = r.heap;
        top = r.top;
        holds = (pures, r.holds);
        below = r.below;
        found = λ x h. elim (r.found x h) [ inl i ↦ inl i | inr l ↦ inr (omega arith) ];
      }

  -- with values for a combination's classes: the terms' values are those
  module _ (k : ℕ) (a : SymbolicHeap) (bs : Choice) (member : IsChosen G bs a.spatial)
      (fields : Each HasFields a.spatial) (consistent : IsConsistent bs a) (vs : List ℕ)
      (respects : Respects (projection k bs a) vs) (w : ℕ) (bound : (i : ℕ) → i ≤ k → entry vs i < w) (s e : Stack)
    where
      abbrev worth_of : Term → ℕ
      worth_of = worth k parameter (class_of ((combination bs a).equal)) (all_differ (combination bs a))
          (addresses bs a.spatial) (entry vs) respects.equal w bound

      build_worth : InHeap (λ t. value s e t ≡ worth_of t) a
          → Built (λ n. Holds (λ _. at_stage ds n) s e a) w (map (entry vs) (projection k bs a).cells)
      build_worth same =
          let f = class_of ((combination bs a).equal) in
          let ds' = all_differ (combination bs a) in
          let cs = addresses bs a.spatial in
          let nil : value s e Nil ≡ worth_of Nil = sym (worth_kept k parameter f ds' cs (entry vs)
          respects.equal w bound 0 (omega arith)) in
          let Q = λ (t : Term). value s e t ≡ worth_of t in
          let equal = λ (q : Two) (i : IsMember q ((combination bs a).equal)).
          let b = equations_in Q nil a same bs q i in
          b.0 ∙ worth_same k parameter f ds' cs (entry vs) respects.equal w bound q.0 q.1
          (each_at (λ q. f q.0 ≡ f q.1) ((combination bs a).equal) q (classes_have ((combination bs a).equal)) i)
          ∙ sym b.1 in
          let differ = λ (q : Two) (i : IsMember q (all_differ (combination bs a))) (x : value s e q.0 ≡ value s e q.1).
          let b = differences_in Q nil a same bs q i in
          worth_apart k parameter f ds' cs (entry vs) respects.equal w bound respects.apart q i
          (each_at (λ q. f q.0 ≢ f q.1) (all_differ (combination bs a)) q consistent i) (sym b.0 ∙ x ∙ b.1) in
          let r = build_heap s e a bs member fields equal differ w in
          record {
            stage = r.stage;
            heap = r.heap;
            top = r.top;
            holds = r.holds;
            below = r.below;
            found = λ x h. elim (r.found x h) [
              | inl i ↦
                  (let t = map_in (value s e) x cs i in
                  let z : worth_of t.0 ≡ x = sym (addresses_in Q nil a.spatial same.1 bs t.0 t.1) ∙ t.2 in
                  elim (worth_cell k parameter f ds' cs (entry vs) respects.equal w bound t.0 t.1) [
                    | inl j ↦ inl (subst (λ y. IsMember y (map (entry vs) (projection k bs a).cells)) z j)
                    | inr l ↦ inr (subst (λ y. w ≤ y) z l)
                  ])
              | inr l ↦ inr l
            ];
          }

  -- a case's base pair is realised
  build_case : (k : ℕ) (a : SymbolicHeap) → IsCase k a → (b : BasePair) → CaseGives G k b a → (vs : List ℕ) (w : ℕ)
      → Respects b vs → Built (λ n h. CaseHolds (at_stage ds n) vs h a) w (map (entry vs) b.cells)
  build_case k a is b c vs w r =
      let bs = c.chosen in
      let respects : Respects (projection k bs a) vs = subst (λ x. Respects x vs) c.projected r in
      let w' = suc (max w (max_of vs)) in
      let bound : (i : ℕ) → i ≤ k → entry vs i < w' = λ i le. let l = entry_max vs i in omega arith in
      let g = worth k parameter (class_of ((combination bs a).equal)) (all_differ (combination bs a))
      (addresses bs a.spatial) (entry vs) respects.equal w' bound in
      let m = heap_numbers a in
      let locals = tabulated (λ n. g (Exist n)) m in
      let kept = worth_kept k parameter (class_of ((combination bs a).equal)) (all_differ (combination bs a))
      (addresses bs a.spatial) (entry vs) respects.equal w' bound in
      let same = heap_go (IsParameterBelow k) (IsWithin m) (λ t. value vs locals t ≡ g t) (terms k vs m g kept) a is.0
      (heap_within a) in
      let o = build_worth k a bs c.from_family is.1 c.consistent vs respects w' bound vs locals same in
      record {
        stage = o.stage;
        heap = o.heap;
        top = o.top;
        holds = (locals, o.holds);
        below = o.below;
        found = λ x h. elim (o.found x h) [
          | inl i ↦ inl (subst (λ y. IsMember x (map (entry vs) y.cells)) (sym c.projected) i)
          | inr l ↦ inr (omega arith)
        ];
      }
    where
      terms : (k : ℕ) (vs : List ℕ) (m : ℕ) (g : Term → ℕ) → ((i : ℕ) → i ≤ k → g (parameter i) ≡ entry vs i)
          → (t : Term) → IsParameterBelow k t → IsWithin m t → value vs (tabulated (λ n. g (Exist n)) m) t ≡ g t
      terms k vs m g kept Nil p q = sym (kept 0 (omega arith))
      terms k vs m g kept (Univ n) p q = sym (kept (suc n) (omega arith))
      terms k vs m g kept (Exist n) p q = tabulated-at (λ n. g (Exist n)) m n (omega arith)

  build_cases : (k : ℕ) (cs : List SymbolicHeap) → Each (IsCase k) cs → (b : BasePair) → OneOf (CaseGives G k b) cs
      → (vs : List ℕ) (w : ℕ) → Respects b vs → Built (λ n h. OneOf (CaseHolds (at_stage ds n) vs h) cs) w
      (map (entry vs) b.cells)
  build_cases k [] is b o vs w r = absurd o
  build_cases k (a ∷ cs) is b (inl o) vs w r =
      let x = build_case k a is.0 b o vs w r in
      record { stage = x.stage; heap = x.heap; top = x.top; holds = inl x.holds; below = x.below; found = x.found }
  build_cases k (a ∷ cs) is b (inr o) vs w r =
      let x = build_cases k cs is.1 b o vs w r in
      record { stage = x.stage; heap = x.heap; top = x.top; holds = inr x.holds; below = x.below; found = x.found }

-- each base pair of the family is realised over all values that respect it
pub family_realised : (ds : List Definition) → AreCases ds → (n p : ℕ) (b : BasePair) → family_at ds n p b
    → IsRealised ds p b
family_realised ds is zero p b o = absurd o
family_realised ds is (suc n) p b o = λ vs w r.
    let x = build_cases ds (family_at ds n) (family_realised ds is n) (arity_of ds p) (cases_of ds p) (is p) b o vs w r
    in
    record { stage = suc x.stage; heap = x.heap; top = x.top; holds = x.holds; below = x.below; found = x.found }

-- soundness: a combinable heap is satisfied by some stack and heap
pub combinable_satisfied : (ds : List Definition) → AreCases ds → (a : SymbolicHeap) → Each HasFields a.spatial
    → IsCombinable ds a → (s : Stack) × (h : Cells) × Satisfies ds s h a
combinable_satisfied ds is a fields c =
    let bs = c.chosen in
    let respects : Respects (projection 0 bs a) [] = record { equal = tt; apart = tt } in
    let bound : (i : ℕ) → i ≤ 0 → entry [] i < 1 = λ i le. none i in
    let g = worth 0 parameter (class_of ((combination bs a).equal)) (all_differ (combination bs a))
    (addresses bs a.spatial) (entry []) respects.equal 1 bound in
    let m = heap_numbers a in
    let s = tabulated (λ n. g (Univ n)) m in
    let e = tabulated (λ n. g (Exist n)) m in
    let kept = worth_kept 0 parameter (class_of ((combination bs a).equal)) (all_differ (combination bs a))
    (addresses bs a.spatial) (entry []) respects.equal 1 bound in
    let same = heap_go (IsWithin m) (IsWithin m) (λ t. value s e t ≡ g t) (terms m g (kept 0 (omega arith))) a
    (heap_within a) (heap_within a) in
    let o = build_worth ds (InFamily ds) (λ p b i. family_realised ds is i.0 p b i.1)
    0 a bs c.from_family fields c.consistent [] respects 1 bound s e same in
    (s, o.heap, ((λ _. o.stage), (e, o.holds)))
  where
    none : (i : ℕ) → entry [] i < 1
    none zero = omega arith
    none (suc i) = omega arith

    terms : (m : ℕ) (g : Term → ℕ) → g Nil ≡ 0 → (t : Term) → IsWithin m t → IsWithin m t
        → value (tabulated (λ n. g (Univ n)) m) (tabulated (λ n. g (Exist n)) m) t ≡ g t
    terms m g z Nil p q = sym z
    terms m g z (Univ n) p q = tabulated-at (λ n. g (Univ n)) m n (omega arith)
    terms m g z (Exist n) p q = tabulated-at (λ n. g (Exist n)) m n (omega arith)
