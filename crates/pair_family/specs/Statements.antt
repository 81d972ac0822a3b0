-- What is proved of satisfiability.
use Rattle.std.specs.Prelude.{◌↔◌, List}
use Rattle.heap_formula.specs.Symbolic.{SymbolicHeap}
use Rattle.heap_formula.specs.Definitions.{Definition}
use Rattle.heap_formula.specs.Words.{Each}
use Rattle.heap_formula.specs.Values.{Stack}
use Rattle.heap_formula.specs.Cells.{Cells}
use Rattle.heap_formula.specs.Meaning.{Satisfies}
use Rattle.pair_family.specs.Closedness.{HasFields, AreCases}
use Rattle.pair_family.specs.Family.{IsCombinable}

-- some stack and heap satisfy the symbolic heap
abbrev pub IsSatisfiable : List Definition → SymbolicHeap → Type 0
IsSatisfiable ds a = (s : Stack) × (h : Cells) × Satisfies ds s h a

abbrev pub CombinableIsSatisfiable : Type 0
CombinableIsSatisfiable = (ds : List Definition) (a : SymbolicHeap) → AreCases ds → Each HasFields a.spatial
    → IsCombinable ds a ↔ IsSatisfiable ds a
