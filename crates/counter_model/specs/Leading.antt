-- The first of what was looked at so far.
use Rattle.std.specs.Prelude.{◌≢◌, ℕ, List, Option, Some, None}
use Rattle.std.specs.declared.cmp.Ordering.TheVariants.{Greater}
use Rattle.heap_formula.specs.Symbolic.{SymbolicHeap}
use Rattle.heap_formula.specs.Definitions.{Definition}
use Rattle.heap_formula.specs.Values.{Stack}
use Rattle.heap_formula.specs.Cells.{Cells}
use Rattle.counter_model.specs.Bounds.{IsWithin}
use Rattle.counter_model.specs.Sizes.{heap_cmp}
use Rattle.counter_model.specs.FirstCounter.{IsCounter}

-- a heap that is given is of bounded size, and with the stack a counter-model
abbrev pub IsHeapFor : ℕ → List Definition → SymbolicHeap → List SymbolicHeap → Stack → Option Cells → Type 0
IsHeapFor n ds a bs s None = Unit {0}
IsHeapFor n ds a bs s (Some h) = IsWithin n h × IsCounter ds a bs s h

-- a heap is given, and it does not come after g
abbrev pub IsLed : ℕ → Option Cells → Cells → Type 0
IsLed n None g = ⊥
IsLed n (Some h) g = heap_cmp n h g ≢ Greater

-- the first heap of bounded size with which the stack is a counter-model; none where there is no such heap
pub record IsFirstHeap (n : ℕ) (ds : List Definition) (a : SymbolicHeap) (bs : List SymbolicHeap) (s : Stack)
    (o : Option Cells) : Type 0 where
  pub counter : IsHeapFor n ds a bs s o
  pub first : (g : Cells) → IsWithin n g → IsCounter ds a bs s g → IsLed n o g
