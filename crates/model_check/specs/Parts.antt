-- Parts of a heap that satisfy a formula.
use Rattle.std.specs.Prelude.{ℕ, List}
use Rattle.heap_formula.specs.Symbolic.{SymbolicHeap}
use Rattle.heap_formula.specs.Definitions.{Definition}
use Rattle.heap_formula.specs.Values.{Stack}
use Rattle.heap_formula.specs.Cells.{Cells, IsPart}
use Rattle.heap_formula.specs.Meaning.{Satisfies}
use Rattle.model_check.specs.MaskParts.{part_of, mask_of}
use Rattle.model_check.specs.WideMasks.{HoldsMask}

-- some part of the heap satisfies the formula
abbrev pub SomePartSatisfies : List Definition → Stack → Cells → SymbolicHeap → Type 0
SomePartSatisfies ds s h a = (part : Cells) × IsPart part h × Satisfies ds s part a

-- the masks are those of the parts of the heap that satisfy the formula
pub record AreMasksOf (ds : List Definition) (addresses : List ℕ) (s : Stack) (h : Cells) (a : SymbolicHeap)
    (masks : List (List ℕ)) : Type 0 where
  pub satisfied : (m : ℕ) → HoldsMask m masks → Satisfies ds s (part_of addresses h m) a
  pub each : (part : Cells) → IsPart part h → Satisfies ds s part a → HoldsMask (mask_of addresses part) masks
