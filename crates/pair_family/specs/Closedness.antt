-- Heaps that stand for cases of a predicate of some arity.
use Rattle.std.specs.Prelude.{ℕ, ◌<◌, List, length}
use Rattle.heap_formula.specs.declared.terms.Term.{Term}
use Rattle.heap_formula.specs.declared.terms.Term.TheVariants.{Nil, Univ, Exist}
use Rattle.heap_formula.specs.declared.atoms.Spatial.{Spatial}
use Rattle.heap_formula.specs.declared.atoms.Spatial.TheVariants.{Cell, Pred}
use Rattle.heap_formula.specs.Symbolic.{SymbolicHeap}
use Rattle.heap_formula.specs.Definitions.{Definition}
use Rattle.heap_formula.specs.Words.{Each}
use Rattle.heap_formula.specs.Closedness.{InHeap}
use Rattle.heap_formula.specs.Meaning.{cases_of}
use Rattle.pair_family.specs.Family.{arity_of}

-- a universal variable is one of the first k
abbrev pub IsParameterBelow : ℕ → Term → Type 0
IsParameterBelow k Nil = Unit {0}
IsParameterBelow k (Univ n) = n < k
IsParameterBelow k (Exist n) = Unit {0}

-- a cell has a field
abbrev pub HasFields : Spatial → Type 0
HasFields (Cell t ts) = 0 < length ts
HasFields (Pred p ts) = Unit {0}

abbrev pub IsCase : ℕ → SymbolicHeap → Type 0
IsCase k a = InHeap (IsParameterBelow k) a × Each HasFields a.spatial

abbrev pub AreCases : List Definition → Type 0
AreCases ds = (p : ℕ) → Each (IsCase (arity_of ds p)) (cases_of ds p)
