-- What a derivation derives holds.
use Rattle.std.proofs.Common.{◌≡◌, ℕ, zero, suc, List, [], ◌∷◌, ◌++◌, Some, slice_get, refl, sym, subst, inl, inr}
use Rattle.heap_formula.specs.declared.atoms.Spatial.{Spatial}
use Rattle.heap_formula.specs.declared.atoms.Spatial.TheVariants.{Cell, Pred}
use Rattle.heap_formula.specs.Symbolic.{SymbolicHeap}
use Rattle.heap_formula.specs.Definitions.{Definition}
use Rattle.heap_formula.specs.Words.{OneOf}
use Rattle.heap_formula.specs.Values.{Stack, value, values}
use Rattle.heap_formula.specs.Cells.{Cells, no_cells, one_cell, Star}
use Rattle.heap_formula.specs.Meaning.{IsCell, SpatialHolds, CaseHolds, cases_of, least, Satisfies}
use Rattle.heap_formula.proofs.Unions.{star_map, star_swap, star_assoc, star_assoc_back, star_empty, empty_star}
use Rattle.heap_formula.proofs.StageLaws.{one_stage, least-IsClosed}
use Rattle.model_check.specs.Questions.{Question}
use Rattle.general_models.specs.declared.derivations.steps.CaseStep.{CaseStep}
use Rattle.general_models.specs.Derivations.{AtomsLeave, atoms_of, Derives, IsDerivation}

-- ground predicate atoms hold of separate parts of the heap
AllHold : List Definition → List Question → Cells → Type 0
AllHold ds [] h = h ≡ no_cells
AllHold ds (q ∷ qs) h = Star (least ds q.predicate q.values) (AllHold ds qs) h

-- the heap is the cells of these atoms
CellsHold : Stack → Stack → List Spatial → Cells → Type 0
CellsHold s e [] h = h ≡ no_cells
CellsHold s e (Cell t ts ∷ xs) h = Star (IsCell (value s e t) (values s e ts)) (CellsHold s e xs) h
CellsHold s e (Pred p ts ∷ xs) h = CellsHold s e xs h

cells_left : (s e : Stack) (xs : List Spatial) (B : Cells → Type 0) (h g : Cells) → AtomsLeave s e xs h g → B g
    → Star (CellsHold s e xs) B h
unfolding CellsHold
cells_left s e [] B h g same b = empty_star (subst B same b)
cells_left s e (Cell t ts ∷ xs) B h g l b =
    let rest = cells_left s e xs B l.0 g l.2 b in
    star_assoc_back (record {
      part = one_cell (value s e t) (values s e ts);
      rest = l.0;
      union = l.1.2;
      first = (l.1.0, l.1.1, refl);
      others = rest;
    })
cells_left s e (Pred p ts ∷ xs) B h g l b =
    cells_left s e xs B h g (subst (λ m. AtomsLeave s e xs m g) l.1 l.2) b

split_atoms : (ds : List Definition) (ps qs : List Question) (h : Cells) → AllHold ds (ps ++ qs) h
    → Star (AllHold ds ps) (AllHold ds qs) h
unfolding AllHold
split_atoms ds [] qs h a = empty_star a
split_atoms ds (p ∷ ps) qs h a = star_assoc_back (star_map (λ g x. x) (split_atoms ds ps qs) a)

joined : (ds : List Definition) (s e : Stack) (xs : List Spatial) (h : Cells)
    → Star (CellsHold s e xs) (AllHold ds (atoms_of s e xs)) h → SpatialHolds (λ _. least ds) s e xs h
unfolding AllHold CellsHold
joined ds s e [] h a = star_empty a
joined ds s e (Cell t ts ∷ xs) h a = star_map (λ g x. x) (joined ds s e xs) (star_assoc a)
joined ds s e (Pred p ts ∷ xs) h a = star_map (λ g x. x) (joined ds s e xs) (star_swap a)

-- a formula whose cells leave a heap on which its predicate atoms hold, beside others
formula_holds : (ds : List Definition) (s e : Stack) (xs : List Spatial) (qs : List Question) (h g : Cells)
    → AtomsLeave s e xs h g → AllHold ds (atoms_of s e xs ++ qs) g
    → Star (SpatialHolds (λ _. least ds) s e xs) (AllHold ds qs) h
formula_holds ds s e xs qs h g l a =
    let parts = cells_left s e xs (Star (AllHold ds (atoms_of s e xs)) (AllHold ds qs)) h g l
    (split_atoms ds (atoms_of s e xs) qs g a) in
    star_map (joined ds s e xs) (λ m x. x) (star_assoc_back parts)

one_of : {X : Type 0} (P : X → Type 0) (xs : List X) (i : ℕ) (x : X) → slice_get xs i ≡ Some x → P x → OneOf P xs
one_of P [] i x at p = absurd cc
one_of P (y ∷ xs) zero x at p = let same : y ≡ x = cc in inl (subst P (sym same) p)
one_of P (y ∷ xs) (suc i) x at p = inr (one_of P xs i x at p)

derived_hold : (ds : List Definition) (steps : List CaseStep) (qs : List Question) (h : Cells) → Derives ds steps qs h
    → AllHold ds qs h
unfolding AllHold
derived_hold ds [] qs h d = subst (λ ys. AllHold ds ys h) (sym d.0) d.1
derived_hold ds (x ∷ steps) [] h d = absurd d
derived_hold ds (x ∷ steps) (q ∷ qs) h d =
    let left = derived_hold ds steps (atoms_of q.values x.locals d.0.spatial ++ qs) d.1 d.4 in
    star_map (λ g a. least-IsClosed ds q.predicate q.values g
    (one_of (CaseHolds (least ds) q.values g) (cases_of ds q.predicate) x.case d.0 d.2 (x.locals, (d.3.0, a))))
    (λ g a. a) (formula_holds ds q.values x.locals d.0.spatial qs h d.1 d.3.1 left)

pub derivation_satisfies : (ds : List Definition) (s : Stack) (h : Cells) (a : SymbolicHeap) (steps : List CaseStep)
    → IsDerivation ds s h a steps → Satisfies ds s h a
derivation_satisfies ds s h a steps d =
    let left = derived_hold ds steps (atoms_of s [] a.spatial) d.0 d.2 in
    let all = joined ds s [] a.spatial h (cells_left s [] a.spatial (AllHold ds (atoms_of s [] a.spatial))
    h d.0 d.1.1 left) in
    let n = one_stage ds s [] a.spatial h all in
    (λ _. n.0, ([], (d.1.0, n.1)))
