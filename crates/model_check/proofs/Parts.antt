-- What satisfies a formula has a part that satisfies its first atoms.
use Rattle.std.proofs.Common.{◌≡◌, ℕ, suc, List, [], ◌∷◌, ◌++◌, refl}
use Rattle.heap_formula.specs.declared.atoms.Pure.{Pure}
use Rattle.heap_formula.specs.declared.atoms.Spatial.{Spatial}
use Rattle.heap_formula.specs.Symbolic.{SymbolicHeap}
use Rattle.heap_formula.specs.Definitions.{Definition}
use Rattle.heap_formula.specs.Values.{Stack}
use Rattle.heap_formula.specs.Cells.{Cells, IsPart, no_cells}
use Rattle.heap_formula.specs.Meaning.{Family, PureHolds, Satisfies, SpatialHolds, at_stage}
use Rattle.heap_formula.proofs.AllMembers.{each_front}
use Rattle.heap_formula.proofs.Unions.{empty_union, union_assoc_back}
use Rattle.model_check.specs.Parts.{SomePartSatisfies}

-- a heap that splits into parts for two lists of atoms has one for the first list
front_holds : (P : ℕ → Family) (s e : Stack) (xs ys : List Spatial) (h : Cells) → SpatialHolds P s e (xs ++ ys) h
    → (part : Cells) × IsPart part h × SpatialHolds P s e xs part
front_holds P s e [] ys h a = (no_cells, (h, empty_union h), refl)
front_holds P s e (x ∷ xs) ys h a =
    let front = front_holds (λ k. P (suc k)) s e xs ys a.rest a.others in
    let both = union_assoc_back front.1.1 a.union in (
      both.0,
      (front.1.0, both.2),
      record { part = a.part; rest = front.0; union = both.1; first = a.first; others = front.2 },
    )

pub front_satisfies : (ds : List Definition) (s : Stack) (h : Cells) (a b : SymbolicHeap)
    → Satisfies ds s h (record { pure = a.pure ++ b.pure; spatial = a.spatial ++ b.spatial }) → SomePartSatisfies ds s h a
front_satisfies ds s h a b x =
    let e = x.1.0 in
    let front = front_holds (λ k. at_stage ds (x.0 k)) s e a.spatial b.spatial h x.1.1.1 in
    (front.0, front.1, (x.0, (e, (each_front (PureHolds s e) a.pure b.pure x.1.1.0, front.2))))
