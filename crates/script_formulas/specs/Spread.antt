-- Heaps with sorts that are told apart without them.
use Rattle.std.specs.Prelude.{◌≡◌, ℕ, List, Some}
use Rattle.heap_formula.specs.Cells.{cell_at}
use Rattle.script_formulas.specs.Heaps.{SortedCells}

-- no two sorts have cells at one number
pub record IsApart (h : SortedCells) : Type 0 where
  pub same : (sort other a : ℕ) (x y : List ℕ) → cell_at (h sort) a ≡ Some x → cell_at (h other) a ≡ Some y
      → sort ≡ other
