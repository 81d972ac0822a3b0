-- The base pairs of the predicates: the least family that has each projection.
use Rattle.std.specs.Prelude.{◌≡◌, ℕ, zero, suc, List, [], ◌∷◌}
use Rattle.heap_formula.specs.declared.atoms.Spatial.{Spatial}
use Rattle.heap_formula.specs.declared.atoms.Spatial.TheVariants.{Cell, Pred}
use Rattle.heap_formula.specs.Symbolic.{SymbolicHeap}
use Rattle.heap_formula.specs.Definitions.{Definition}
use Rattle.heap_formula.specs.Words.{OneOf}
use Rattle.heap_formula.specs.Meaning.{cases_of}
use Rattle.pair_family.specs.BasePairs.{BasePair}
use Rattle.pair_family.specs.Combination.{Choice, next, IsConsistent, projection}

-- for each predicate, base pairs
abbrev pub PairFamily : Type 1
PairFamily = ℕ → BasePair → Type 0

-- an atom's base pair, if the atom is a predicate's, is one of its predicate's
abbrev pub IsChosenAt : PairFamily → BasePair → Spatial → Type 0
IsChosenAt F b (Cell t ts) = Unit {0}
IsChosenAt F b (Pred p ts) = F p b

-- each predicate atom's base pair is one of its predicate's
abbrev pub IsChosen : PairFamily → Choice → List Spatial → Type 0
IsChosen F bs [] = Unit {0}
IsChosen F bs (x ∷ xs) = IsChosenAt F (bs 0) x × IsChosen F (next bs) xs

-- b is the projection of a consistent combination of a case with base pairs of F
pub record CaseGives (F : PairFamily) (k : ℕ) (b : BasePair) (a : SymbolicHeap) : Type 0 where
  pub chosen : Choice
  pub from_family : IsChosen F chosen a.spatial
  pub consistent : IsConsistent chosen a
  pub projected : b ≡ projection k chosen a

abbrev pub arity_of : List Definition → ℕ → ℕ
arity_of [] p = 0
arity_of (d ∷ ds) zero = d.arity
arity_of (d ∷ ds) (suc p) = arity_of ds p

-- the base pairs after n rounds
abbrev pub family_at : List Definition → ℕ → PairFamily
family_at ds zero p b = ⊥
family_at ds (suc n) p b = OneOf (CaseGives (family_at ds n) (arity_of ds p) b) (cases_of ds p)

abbrev pub InFamily : List Definition → PairFamily
InFamily ds p b = (n : ℕ) × family_at ds n p b

-- some choice of base pairs has a consistent combination with the heap
pub record IsCombinable (ds : List Definition) (a : SymbolicHeap) : Type 0 where
  pub chosen : Choice
  pub from_family : IsChosen (InFamily ds) chosen a.spatial
  pub consistent : IsConsistent chosen a
