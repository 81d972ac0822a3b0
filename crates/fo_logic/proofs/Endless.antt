-- A predicate that uses itself in each case has no finite unfolding.
use Rattle.std.proofs.Common.{ℕ, zero, suc, List, [], ◌∷◌, inl, inr, subst, sym}
use Rattle.heap_formula.specs.declared.atoms.Spatial.{Spatial}
use Rattle.heap_formula.specs.declared.atoms.Spatial.TheVariants.{Cell, Pred}
use Rattle.heap_formula.specs.Symbolic.{SymbolicHeap}
use Rattle.heap_formula.specs.Definitions.{Definition}
use Rattle.heap_formula.specs.Words.{Each, OneOf}
use Rattle.heap_formula.specs.Values.{Stack, values}
use Rattle.heap_formula.specs.Cells.{Cells}
use Rattle.heap_formula.specs.Meaning.{Family, SpatialHolds, CaseHolds, cases_of, at_stage, least}
use Rattle.fo_logic.specs.Samples.{IsUse, UsesItself}

-- where a list with an atom of p holds, p holds of something
used : (P : Family) (p : ℕ) → ((vs : List ℕ) (h : Cells) → ¬ P p vs h) → (s e : Stack) (xs : List Spatial) (h : Cells)
    → OneOf (IsUse p) xs → ¬ SpatialHolds (λ _. P) s e xs h
used P p no' s e [] h u a = u
used P p no' s e (Cell t ts ∷ xs) h (inl u) a = u
used P p no' s e (Pred q ts ∷ xs) h (inl u) a =
    no' (values s e ts) a.part (subst (λ k. P k (values s e ts) a.part) (sym u) a.first)
used P p no' s e (x ∷ xs) h (inr u) a = used P p no' s e xs a.rest u a.others

no_case : (P : Family) (p : ℕ) → ((vs : List ℕ) (h : Cells) → ¬ P p vs h)
    → (vs : List ℕ) (h : Cells) (cases : List SymbolicHeap) → Each (λ case. OneOf (IsUse p) case.spatial) cases
    → ¬ OneOf (CaseHolds P vs h) cases
no_case P p no' vs h [] uses o = o
no_case P p no' vs h (case ∷ cases) uses (inl c) = used P p no' vs c.0 case.spatial h uses.0 c.1.1
no_case P p no' vs h (case ∷ cases) uses (inr o) = no_case P p no' vs h cases uses.1 o

pub never : (ds : List Definition) (p : ℕ) → UsesItself ds p → (n : ℕ) (vs : List ℕ) (h : Cells)
    → ¬ at_stage ds n p vs h
never ds p uses zero vs h a = a
never ds p uses (suc n) vs h a = no_case (at_stage ds n) p (never ds p uses n) vs h (cases_of ds p) uses a

pub endless : (ds : List Definition) (p : ℕ) → UsesItself ds p → (vs : List ℕ) (h : Cells) → ¬ least ds p vs h
endless ds p uses vs h a = never ds p uses a.0 vs h a.1
