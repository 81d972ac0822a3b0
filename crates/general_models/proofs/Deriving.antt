-- Steps of a derivation.
use Rattle.std.specs.Prelude.{◌↔◌, IsTrue, reverse, slice_get}
use Rattle.std.proofs.Common.{◌≡◌, ℕ, Bool, true, List, [], ◌∷◌, ◌++◌, Some, refl, sym, ap, ◌∙◌, subst}
use Rattle.std.proofs.lemmas.List.{reverse-append, append-nil}
use Rattle.heap_formula.specs.Symbolic.{SymbolicHeap}
use Rattle.heap_formula.specs.Definitions.{Definition}
use Rattle.heap_formula.specs.Values.{Stack}
use Rattle.heap_formula.specs.Cells.{Cells}
use Rattle.heap_formula.specs.Meaning.{cases_of}
use Rattle.model_check.specs.Questions.{Question}
use Rattle.general_models.specs.declared.derivations.steps.CaseStep.{CaseStep}
use Rattle.general_models.specs.Derivations.{Opens, atoms_of, Derives, IsDerivation}

some_same : {y z : SymbolicHeap} → Some y ≡ Some z → y ≡ z
some_same e = cc

-- the pending atoms, of which the topmost is taken
pub popped : (old new : List Question) (q : Question) → old ≡ new ++ q ∷ [] → reverse old ≡ q ∷ reverse new
popped old new q e = ap reverse e ∙ reverse-append new (q ∷ [])

module _ (ds : List Definition) (x : CaseStep) (rest : List CaseStep) (h : Cells) (q : Question)
    (qs pending : List Question) (top : pending ≡ q ∷ qs) where
  -- the case of a step, at values and locals that are the atom's and the step's
  module _ (p : ℕ) (vs es : List ℕ) (pe : p ≡ q.predicate) (ve : vs ≡ q.values) (ee : es ≡ x.locals) where
    pub case_opened : (c : SymbolicHeap) (b : Bool) (new : List Question) (left : Cells)
        → slice_get (cases_of ds p) x.case ≡ Some c → ((g : Cells) → Opens vs es c h g ↔ (IsTrue b × (g ≡ left)))
        → (IsTrue b → new ≡ atoms_of vs es c.spatial ++ qs) → Derives ds (x ∷ rest) pending h
        ↔ (IsTrue b × Derives ds rest new left)
    case_opened c b new left was opens more =
        let at : slice_get (cases_of ds q.predicate) x.case
        ≡ Some c = subst (λ n. slice_get (cases_of ds n) x.case ≡ Some c) pe was in
        let fits : (g : Cells) → Opens q.values x.locals c h g
        ↔ (IsTrue b × (g ≡ left)) = λ g. subst (λ us. Opens us x.locals c h g ↔ (IsTrue b × (g ≡ left))) ve
        (subst (λ us. Opens vs us c h g ↔ (IsTrue b × (g ≡ left))) ee (opens g)) in
        let next : IsTrue b → new ≡ atoms_of q.values x.locals c.spatial ++ qs = λ t. more t
        ∙ ap (λ us. atoms_of us es c.spatial ++ qs) ve ∙ ap (λ us. atoms_of q.values us c.spatial ++ qs) ee in (
          λ d.
              let k : Derives ds (x ∷ rest) (q ∷ qs) h = subst (λ ys. Derives ds (x ∷ rest) ys h) top d in
              let same : k.0 ≡ c = some_same (sym k.2 ∙ at) in
              let o = (fits k.1).0 (subst (λ (a : SymbolicHeap). Opens q.values x.locals a h k.1) same k.3) in
              let here = subst (λ g. Derives ds rest (atoms_of q.values x.locals k.0.spatial ++ qs) g) o.1 k.4 in
              let there = subst (λ (a : SymbolicHeap). Derives ds rest (atoms_of q.values x.locals a.spatial ++ qs)
              left) same here in
              (o.0, subst (λ ys. Derives ds rest ys left) (sym (next o.0)) there),
          λ t. subst (λ ys. Derives ds (x ∷ rest) ys h) (sym top)
              (c, left, at, (fits left).1 (t.0, refl), subst (λ ys. Derives ds rest ys left) (next t.0) t.1),
        )

-- the formula was opened, and the steps derive what it asks for
pub begun : (ds : List Definition) (s t : Stack) (h m : Cells) (a : SymbolicHeap) (steps : List CaseStep) (b d : Bool)
    (none new : List Question) (left : Cells) → t ≡ s → m ≡ h → none ≡ []
    → ((g : Cells) → Opens t [] a m g ↔ (IsTrue b × (g ≡ left)))
    → (IsTrue b → reverse new ≡ atoms_of t [] a.spatial ++ reverse none) → b ≡ true
    → (IsTrue d ↔ Derives ds steps (reverse new) left) → IsTrue d ↔ IsDerivation ds s h a steps
begun ds s t h m a steps b d none new left te me ne opens more fit i =
    let fits : (g : Cells) → Opens s [] a h g ↔ (IsTrue b × (g ≡ left)) = λ g.
    subst (λ us. Opens us [] a h g ↔ (IsTrue b × (g ≡ left))) te
    (subst (λ n. Opens t [] a n g ↔ (IsTrue b × (g ≡ left))) me (opens g)) in
    let next : reverse new ≡ atoms_of s [] a.spatial = more fit ∙ ap (λ qs. atoms_of t [] a.spatial ++ reverse qs) ne
    ∙ append-nil (atoms_of t [] a.spatial) ∙ ap (λ us. atoms_of us [] a.spatial) te in (
      λ y. (left, (fits left).1 (fit, refl), subst (λ ys. Derives ds steps ys left) next (i.0 y)),
      λ k. i.1 (subst (λ ys. Derives ds steps ys left) (sym next)
          (subst (λ g. Derives ds steps (atoms_of s [] a.spatial) g) ((fits k.0).0 k.1).1 k.2)),
    )
