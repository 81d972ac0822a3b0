-- A join of cases holds where both do.
use Rattle.std.proofs.Common.{◌≡◌, ℕ, zero, suc, ◌+◌, ◌≤◌, Bool, true, false, ◌&&◌, List, [], ◌∷◌, ◌++◌, map, length}
use Rattle.std.proofs.Common.{None, Ok, refl, sym, ap, ◌∙◌, subst, arith, ◌⊎◌, inl, inr, length-append}
use mathlib.Core.Path.{transport, transport⁻¹}
use Rattle.heap_formula.proofs.AllMembers.{each_append, each_front, each_back}
use Rattle.heap_formula.proofs.SomeMember.{one_front}
use Rattle.heap_formula.specs.declared.terms.Term.{Term}
use Rattle.heap_formula.specs.Values.{Stack}
use Rattle.heap_formula.specs.Meaning.{PureHolds}
use Rattle.heap_formula.specs.Substitution.{in_pure}
use Rattle.heap_formula.specs.Words.{Each, OneOf}
use Rattle.script_formulas.specs.declared.formula.ScriptAtom.{ScriptAtom}
use Rattle.script_formulas.specs.Heaps.{SortedCells, SortedStar}
use Rattle.script_formulas.specs.Meaning.{SortedFamily}
use Rattle.script_formulas.proofs.SortedHeaps.{sorted_map, sorted_star_assoc, sorted_star_assoc_back, sorted_star_empty}
use Rattle.script_formulas.proofs.SortedHeaps.{sorted_empty_star, sorted_right_or, sorted_left_or}
use Rattle.script_formulas.specs.declared.cases.joining.Way.{Way}
use Rattle.script_formulas.specs.declared.cases.joining.Way.TheVariants.{Conjunction, Separation}
use Rattle.script_formulas.specs.Cases.{SymbolicCase}
use Rattle.script_formulas.specs.Shifting.{shift_term, in_atom}
use Rattle.script_formulas.specs.Joining.{both_cases, way_refusal, join, join_with, join_lists}
use Rattle.script_formulas.specs.Holding.{SeparateAtomsHold, AtomsHold, CaseHolds, OneCaseHolds}
use Rattle.script_formulas.specs.Scope.{IsBound, InAtom, IsFine, AreFine}
use Rattle.script_formulas.proofs.Answers.{after_answer}
use Rattle.script_formulas.proofs.Stacks.{Keeps, pures_kept, atoms_kept, each_pure_imply, each_atom_imply, pures_stay}
use Rattle.script_formulas.proofs.Stacks.{atoms_stay, raised, first_kept}
use Rattle.script_formulas.proofs.Fine.{joined_is}

-- both hold, as the way says
abbrev pub Together : Way → (SortedCells → Type 0) → (SortedCells → Type 0) → SortedCells → Type 0
Together Conjunction A B h = A h × B h
Together Separation A B h = SortedStar A B h

pub together_map : (way : Way) (A B C D : SortedCells → Type 0) (h : SortedCells) → ((g : SortedCells) → A g → C g)
    → ((g : SortedCells) → B g → D g) → Together way A B h → Together way C D h
together_map Conjunction A B C D h f g t = (f h t.0, g h t.1)
together_map Separation A B C D h f g t = sorted_map f g t

together_right_or : (way : Way) (A B C : SortedCells → Type 0) (h : SortedCells) → Together way A (λ g. B g ⊎ C g) h
    → Together way A B h ⊎ Together way A C h
together_right_or Conjunction A B C h t = elim t.1 [ inl b ↦ inl (t.0, b) | inr c ↦ inr (t.0, c) ]
together_right_or Separation A B C h t = sorted_right_or t

together_left_or : (way : Way) (A B C : SortedCells → Type 0) (h : SortedCells) → Together way (λ g. A g ⊎ B g) C h
    → Together way A C h ⊎ Together way B C h
together_left_or Conjunction A B C h t = elim t.0 [ inl a ↦ inl (a, t.1) | inr b ↦ inr (b, t.1) ]
together_left_or Separation A B C h t = sorted_left_or t

together_right_none : (way : Way) (A : SortedCells → Type 0) (h : SortedCells) → Together way A (λ g. ⊥) h → ⊥
together_right_none Conjunction A h t = t.1
together_right_none Separation A h t = t.others

together_left_none : (way : Way) (B : SortedCells → Type 0) (h : SortedCells) → Together way (λ g. ⊥) B h → ⊥
together_left_none Conjunction B h t = t.0
together_left_none Separation B h t = t.first

pub one_behind : {X : Type 0} (P : X → Type 0) (xs ys : List X) → OneOf P ys → OneOf P (xs ++ ys)
one_behind P [] ys o = o
one_behind P (x ∷ xs) ys o = inr (one_behind P xs ys o)

pub one_split : {X : Type 0} (P : X → Type 0) (xs ys : List X) → OneOf P (xs ++ ys) → OneOf P xs ⊎ OneOf P ys
one_split P [] ys o = inr o
one_split P (x ∷ xs) ys (inl p) = inl (inl p)
one_split P (x ∷ xs) ys (inr o) = elim (one_split P xs ys o) [ inl q ↦ inl (inr q) | inr q ↦ inr q ]

-- a list of so many numbers in two
pub record Halves (n m : ℕ) (own : List ℕ) : Type 0 where
  pub first : List ℕ
  pub second : List ℕ
  pub first_length : length first ≡ n
  pub second_length : length second ≡ m
  pub whole : own ≡ first ++ second

pub halves : (n m : ℕ) (own : List ℕ) → length own ≡ n + m → Halves n m own
halves zero m own len = record {
  first = [];
  second = own;
  first_length = refl;
  second_length = omega arith;
  whole = refl;
}
halves (suc n) m [] len = absurd (omega arith)
halves (suc n) m (x ∷ own) len =
    let h = halves n m own (omega arith) in
    record {
      first = x ∷ h.first;
      second = h.second;
      first_length = ap suc h.first_length;
      second_length = h.second_length;
      whole = ap (λ l. x ∷ l) h.whole;
    }

module _ (locations : List ℕ) (P : SortedFamily) (s : Stack) where
  separate_append : (e : Stack) (xs ys : List ScriptAtom) (h : SortedCells)
      → SortedStar (SeparateAtomsHold locations P s e xs) (SeparateAtomsHold locations P s e ys) h
      → SeparateAtomsHold locations P s e (xs ++ ys) h
  separate_append e [] ys h t = sorted_star_empty t
  separate_append e (x ∷ xs) ys h t = sorted_map (λ g a. a) (separate_append e xs ys) (sorted_star_assoc t)

  separate_split : (e : Stack) (xs ys : List ScriptAtom) (h : SortedCells)
      → SeparateAtomsHold locations P s e (xs ++ ys) h → SortedStar (SeparateAtomsHold locations P s e xs)
      (SeparateAtomsHold locations P s e ys) h
  separate_split e [] ys h t = sorted_empty_star t
  separate_split e (x ∷ xs) ys h t = sorted_star_assoc_back (sorted_map (λ g a. a) (separate_split e xs ys) t)

  end_none : (xs : List ScriptAtom) → xs ++ [] ≡ xs
  end_none [] = refl
  end_none (x ∷ xs) = λ i. x ∷ end_none xs i

  -- what both say of the heap
  atoms_joined : (way : Way) (e : Stack) (p q : Bool) (xs ys : List ScriptAtom) (h : SortedCells)
      → way_refusal way p q ≡ None → (p ≡ true → xs ≡ []) → (q ≡ true → ys ≡ [])
      → Together way (AtomsHold p locations P s e xs) (AtomsHold q locations P s e ys) h
      → AtomsHold (p && q) locations P s e (xs ++ ys) h
  atoms_joined Conjunction e true true xs ys h fits px py t = tt
  atoms_joined Conjunction e true false xs ys h fits px py t = subst
      (λ l. SeparateAtomsHold locations P s e (l ++ ys) h) (sym (px refl)) t.1
  atoms_joined Conjunction e false true xs ys h fits px py t = subst (λ l. SeparateAtomsHold locations P s e l h)
      (sym (end_none xs) ∙ ap (λ l. xs ++ l) (sym (py refl))) t.0
  atoms_joined Conjunction e false false xs ys h fits px py t = absurd cc
  atoms_joined Separation e true q xs ys h fits px py t = absurd cc
  atoms_joined Separation e false true xs ys h fits px py t = absurd cc
  atoms_joined Separation e false false xs ys h fits px py t = separate_append e xs ys h t

  atoms_parted : (way : Way) (e : Stack) (p q : Bool) (xs ys : List ScriptAtom) (h : SortedCells)
      → way_refusal way p q ≡ None → (p ≡ true → xs ≡ []) → (q ≡ true → ys ≡ [])
      → AtomsHold (p && q) locations P s e (xs ++ ys) h
      → Together way (AtomsHold p locations P s e xs) (AtomsHold q locations P s e ys) h
  atoms_parted Conjunction e true true xs ys h fits px py t = (tt, tt)
  atoms_parted Conjunction e true false xs ys h fits px py t =
      (tt, subst (λ l. SeparateAtomsHold locations P s e (l ++ ys) h) (px refl) t)
  atoms_parted Conjunction e false true xs ys h fits px py t =
      (subst (λ l. SeparateAtomsHold locations P s e l h) (ap (λ l. xs ++ l) (py refl) ∙ end_none xs) t, tt)
  atoms_parted Conjunction e false false xs ys h fits px py t = absurd cc
  atoms_parted Separation e true q xs ys h fits px py t = absurd cc
  atoms_parted Separation e false true xs ys h fits px py t = absurd cc
  atoms_parted Separation e false false xs ys h fits px py t = separate_split e xs ys h t

  flagged : (p : Bool) (e e' : Stack) (f : Term → Term) (xs : List ScriptAtom) → Each (InAtom (Keeps s e s e' f)) xs
      → (h : SortedCells) → AtomsHold p locations P s e' (map (in_atom f) xs) h ≡ AtomsHold p locations P s e xs h
  flagged true e e' f xs k h = refl
  flagged false e e' f xs k h = atoms_kept locations P s e s e' f xs k h

  module _ (e xs ys : Stack) (a b : SymbolicCase) (fa : IsFine (length e) a) (fb : IsFine (length e) b)
      (lx : length xs ≡ a.quantified) (few : a.quantified + b.quantified ≤ 1024) (small : length e ≤ 1024) where
    first_term : (t : Term) → IsBound (length e + a.quantified) t → Keeps s (e ++ xs) s (e ++ (xs ++ ys)) (λ t. t) t
    first_term t bound = first_kept s e xs ys t (subst (λ n. IsBound (length e + n) t) (sym lx) bound)

    second_term : (t : Term) → IsBound (length e + b.quantified) t
        → Keeps s (e ++ ys) s (e ++ (xs ++ ys)) (shift_term (length e) a.quantified) t
    second_term t bound = raised s e xs ys (length e + b.quantified) a.quantified lx t bound (omega arith)

    first_pures : Each (PureHolds s (e ++ (xs ++ ys))) a.pure ≡ Each (PureHolds s (e ++ xs)) a.pure
    first_pures =
        ap (λ ps. Each (PureHolds s (e ++ (xs ++ ys))) ps) (sym (pures_stay a.pure))
        ∙ pures_kept s (e ++ xs) s (e ++ (xs ++ ys)) (λ t. t) a.pure (each_pure_imply _ _ first_term a.pure fa.pures)

    second_pures : Each (PureHolds s (e ++ (xs ++ ys))) (map (in_pure (shift_term (length e) a.quantified)) b.pure)
        ≡ Each (PureHolds s (e ++ ys)) b.pure
    second_pures = pures_kept s (e ++ ys) s (e ++ (xs ++ ys)) (shift_term (length e) a.quantified) b.pure
        (each_pure_imply _ _ second_term b.pure fb.pures)

    first_atoms : (h : SortedCells) → AtomsHold a.any_heap locations P s (e ++ (xs ++ ys)) a.atoms h
        ≡ AtomsHold a.any_heap locations P s (e ++ xs) a.atoms h
    first_atoms h =
        ap (λ l. AtomsHold a.any_heap locations P s (e ++ (xs ++ ys)) l h) (sym (atoms_stay a.atoms))
        ∙ flagged a.any_heap (e ++ xs) (e ++ (xs ++ ys)) (λ t. t) a.atoms
        (each_atom_imply _ _ first_term a.atoms fa.heap) h

    second_atoms : (h : SortedCells) → AtomsHold b.any_heap locations P s (e ++ (xs ++ ys))
        (map (in_atom (shift_term (length e) a.quantified)) b.atoms) h
        ≡ AtomsHold b.any_heap locations P s (e ++ ys) b.atoms h
    second_atoms h = flagged b.any_heap (e ++ ys) (e ++ (xs ++ ys)) (shift_term (length e) a.quantified) b.atoms
        (each_atom_imply _ _ second_term b.atoms fb.heap) h

  none_shifted : (f : Term → Term) (xs : List ScriptAtom) → xs ≡ [] → map (in_atom f) xs ≡ []
  none_shifted f xs p = ap (map (in_atom f)) p

  module _ (way : Way) (e : Stack) (a b : SymbolicCase) (fa : IsFine (length e) a) (fb : IsFine (length e) b)
      (fits : way_refusal way a.any_heap b.any_heap ≡ None) (few : a.quantified + b.quantified ≤ 1024)
      (small : length e ≤ 1024) where
    joined_from : (xs ys : Stack) → length xs ≡ a.quantified → length ys ≡ b.quantified
        → Each (PureHolds s (e ++ xs)) a.pure → Each (PureHolds s (e ++ ys)) b.pure → (h : SortedCells)
        → Together way (AtomsHold a.any_heap locations P s (e ++ xs) a.atoms)
        (AtomsHold b.any_heap locations P s (e ++ ys) b.atoms) h
        → CaseHolds locations P s e (both_cases (length e) a b) h
    joined_from xs ys lx ly px py h t =
        let n : length (xs ++ ys) ≡ a.quantified + b.quantified = length-append xs ys ∙ (λ i. lx i + ly i) in
        let ps = each_append _ a.pure _ (transport⁻¹ (first_pures e xs ys a b fa fb lx few small) px)
        (transport⁻¹ (second_pures e xs ys a b fa fb lx few small) py) in
        let there = together_map way (λ g. AtomsHold a.any_heap locations P s (e ++ xs) a.atoms g)
        (λ g. AtomsHold b.any_heap locations P s (e ++ ys) b.atoms g)
        (λ g. AtomsHold a.any_heap locations P s (e ++ (xs ++ ys)) a.atoms g)
        (λ g. AtomsHold b.any_heap locations P s (e ++ (xs ++ ys))
        (map (in_atom (shift_term (length e) a.quantified)) b.atoms) g) h
        (λ g at. transport⁻¹ (first_atoms e xs ys a b fa fb lx few small g) at)
        (λ g at. transport⁻¹ (second_atoms e xs ys a b fa fb lx few small g) at) t in (
          xs ++ ys,
          n,
          ps,
          atoms_joined way (e ++ (xs ++ ys)) a.any_heap b.any_heap a.atoms _ h fits fa.open_heap
              (λ o. none_shifted _ b.atoms (fb.open_heap o)) there,
        )

    parted_at : (xs ys : Stack) → length xs ≡ a.quantified → length ys ≡ b.quantified → (h : SortedCells)
        → Each (PureHolds s (e ++ (xs ++ ys))) (a.pure ++ map (in_pure (shift_term (length e) a.quantified)) b.pure)
        → AtomsHold (a.any_heap && b.any_heap) locations P s (e ++ (xs ++ ys))
        (a.atoms ++ map (in_atom (shift_term (length e) a.quantified)) b.atoms) h
        → Together way (CaseHolds locations P s e a) (CaseHolds locations P s e b) h
    parted_at xs ys lx ly h ps at =
        let px = transport (first_pures e xs ys a b fa fb lx few small) (each_front _ a.pure _ ps) in
        let py = transport (second_pures e xs ys a b fa fb lx few small) (each_back _ a.pure _ ps) in
        let parts = atoms_parted way (e ++ (xs ++ ys)) a.any_heap b.any_heap a.atoms _ h fits fa.open_heap
        (λ o. none_shifted _ b.atoms (fb.open_heap o)) at in
        together_map way (λ g. AtomsHold a.any_heap locations P s (e ++ (xs ++ ys)) a.atoms g)
        (λ g. AtomsHold b.any_heap locations P s (e ++ (xs ++ ys))
        (map (in_atom (shift_term (length e) a.quantified)) b.atoms) g) (CaseHolds locations P s e a)
        (CaseHolds locations P s e b) h
        (λ g t. (xs, lx, px, transport (first_atoms e xs ys a b fa fb lx few small g) t))
        (λ g t. (ys, ly, py, transport (second_atoms e xs ys a b fa fb lx few small g) t))
        parts

    parted : (h : SortedCells) → CaseHolds locations P s e (both_cases (length e) a b) h
        → Together way (CaseHolds locations P s e a) (CaseHolds locations P s e b) h
    parted h c =
        let parts = halves a.quantified b.quantified c.0 c.1 in
        parted_at parts.first parts.second parts.first_length parts.second_length h
        (subst (λ own. Each (PureHolds s (e ++ own)) (a.pure
        ++ map (in_pure (shift_term (length e) a.quantified)) b.pure)) parts.whole c.2)
        (subst (λ own. AtomsHold (a.any_heap && b.any_heap) locations P s (e ++ own)
        (a.atoms ++ map (in_atom (shift_term (length e) a.quantified)) b.atoms) h) parts.whole c.3)

  joined : (way : Way) (e : Stack) (a b : SymbolicCase) → IsFine (length e) a → IsFine (length e) b
      → way_refusal way a.any_heap b.any_heap ≡ None → a.quantified + b.quantified ≤ 1024 → length e ≤ 1024
      → (h : SortedCells)
      → Together way (CaseHolds locations P s e a) (CaseHolds locations P s e b) h
      → CaseHolds locations P s e (both_cases (length e) a b) h
  joined Conjunction e a b fa fb fits few small h t =
      joined_from Conjunction e a b fa fb fits few small t.0.0 t.1.0 t.0.1 t.1.1 t.0.2 t.1.2 h (t.0.3, t.1.3)
  joined Separation e a b fa fb fits few small h t =
      joined_from Separation e a b fa fb fits few small t.first.0 t.others.0 t.first.1 t.others.1 t.first.2 t.others.2 h
      (record { part = t.part; rest = t.rest; union = t.union; first = t.first.3; others = t.others.3 })

  -- ---- lists of cases

  abbrev One : Stack → List SymbolicCase → SortedCells → Type 0
  One e cs h = OneCaseHolds locations P s e cs h

  pub join_with_holds : (way : Way) (e : Stack) (a : SymbolicCase) (ys cs : List SymbolicCase) → IsFine (length e) a
      → AreFine (length e) ys → length e ≤ 1024 → join_with way (length e) a ys ≡ Ok cs
      → (h : SortedCells) → Together way (CaseHolds locations P s e a) (One e ys) h → One e cs h
  join_with_holds way e a [] cs fa fb small p h t = absurd (together_right_none way (CaseHolds locations P s e a) h t)
  join_with_holds way e a (b ∷ ys) cs fa fb small p h t =
      let q = after_answer (join way (length e) a b) _ cs p in
      let r = after_answer (join_with way (length e) a ys) _ cs q.2 in
      let same : q.0 ∷ r.0 ≡ cs = cc in
      let j = joined_is way (length e) a b q.0 q.1 in
      let there : One e (q.0 ∷ r.0) h =
      elim (together_right_or way (CaseHolds locations P s e a) (CaseHolds locations P s e b) (One e ys) h t) [
        | inl u ↦ inl (subst (λ c. CaseHolds locations P s e c h) (sym j.both)
            (joined way e a b fa fb.0 j.fits j.few small h u))
        | inr u ↦ inr (join_with_holds way e a ys r.0 fa fb.1 small r.1 h u)
      ] in
      subst (λ l. One e l h) same there

  pub join_with_parts : (way : Way) (e : Stack) (a : SymbolicCase) (ys cs : List SymbolicCase) → IsFine (length e) a
      → AreFine (length e) ys → length e ≤ 1024 → join_with way (length e) a ys ≡ Ok cs
      → (h : SortedCells) → One e cs h → Together way (CaseHolds locations P s e a) (One e ys) h
  join_with_parts way e a [] cs fa fb small p h o = let same : cs ≡ [] = cc in
      let none : ⊥ = subst (λ l. One e l h) same o in absurd none
  join_with_parts way e a (b ∷ ys) cs fa fb small p h o =
      let q = after_answer (join way (length e) a b) _ cs p in
      let r = after_answer (join_with way (length e) a ys) _ cs q.2 in
      let same : cs ≡ q.0 ∷ r.0 = cc in
      let j = joined_is way (length e) a b q.0 q.1 in
      let there : One e (q.0 ∷ r.0) h = subst (λ l. One e l h) same o in
      elim there [
        | inl c ↦ together_map way (CaseHolds locations P s e a) (CaseHolds locations P s e b)
            (CaseHolds locations P s e a) (One e (b ∷ ys)) h (λ g x. x) (λ g x. inl x)
            (parted way e a b fa fb.0 j.fits j.few small h (subst (λ c. CaseHolds locations P s e c h) j.both c))
        | inr u ↦ together_map way (CaseHolds locations P s e a) (One e ys) (CaseHolds locations P s e a)
            (One e (b ∷ ys)) h (λ g x. x) (λ g x. inr x) (join_with_parts way e a ys r.0 fa fb.1 small r.1 h u)
      ]

  pub join_lists_holds : (way : Way) (e : Stack) (xs ys cs : List SymbolicCase) → AreFine (length e) xs
      → AreFine (length e) ys → length e ≤ 1024 → join_lists way (length e) xs ys ≡ Ok cs
      → (h : SortedCells) → Together way (One e xs) (One e ys) h → One e cs h
  join_lists_holds way e [] ys cs fa fb small p h t = absurd (together_left_none way (One e ys) h t)
  join_lists_holds way e (a ∷ xs) ys cs fa fb small p h t =
      let q = after_answer (join_with way (length e) a ys) _ cs p in
      let r = after_answer (join_lists way (length e) xs ys) _ cs q.2 in
      let same : q.0 ++ r.0 ≡ cs = cc in
      let there : One e (q.0 ++ r.0) h =
      elim (together_left_or way (CaseHolds locations P s e a) (One e xs) (One e ys) h t) [
        | inl u ↦ one_front _ q.0 r.0 (join_with_holds way e a ys q.0 fa.0 fb small q.1 h u)
        | inr u ↦ one_behind _ q.0 r.0 (join_lists_holds way e xs ys r.0 fa.1 fb small r.1 h u)
      ] in
      subst (λ l. One e l h) same there

  pub join_lists_parts : (way : Way) (e : Stack) (xs ys cs : List SymbolicCase) → AreFine (length e) xs
      → AreFine (length e) ys → length e ≤ 1024 → join_lists way (length e) xs ys ≡ Ok cs
      → (h : SortedCells) → One e cs h → Together way (One e xs) (One e ys) h
  join_lists_parts way e [] ys cs fa fb small p h o = let same : cs ≡ [] = cc in
      let none : ⊥ = subst (λ l. One e l h) same o in absurd none
  join_lists_parts way e (a ∷ xs) ys cs fa fb small p h o =
      let q = after_answer (join_with way (length e) a ys) _ cs p in
      let r = after_answer (join_lists way (length e) xs ys) _ cs q.2 in
      let same : cs ≡ q.0 ++ r.0 = cc in
      elim (one_split _ q.0 r.0 (subst (λ l. One e l h) same o)) [
        | inl c ↦ together_map way (CaseHolds locations P s e a) (One e ys) (One e (a ∷ xs)) (One e ys) h (λ g x. inl x)
            (λ g x. x) (join_with_parts way e a ys q.0 fa.0 fb small q.1 h c)
        | inr u ↦ together_map way (One e xs) (One e ys) (One e (a ∷ xs)) (One e ys) h (λ g x. inr x) (λ g x. x)
            (join_lists_parts way e xs ys r.0 fa.1 fb small r.1 h u)
      ]
