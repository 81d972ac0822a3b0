-- Stacks and heaps that a model file within these limits may have.
use Rattle.std.specs.Prelude.{◌≡◌, ℕ, ◌<◌, ◌≤◌, List, length, Some}
use Rattle.std.specs.FinMap.{entries}
use Rattle.cyc_basics.specs.declared.limits.Limits.{Limits}
use Rattle.cyc_basics.specs.declared.limits.TheConstants.{MOST_VALUES}
use Rattle.heap_formula.specs.Words.{Each}
use Rattle.heap_formula.specs.Values.{Stack}
use Rattle.heap_formula.specs.Cells.{Cells, cell_at}
use Rattle.model_file.specs.Small.{IsShortNumber}

-- an address and its fields
pub record IsPlainCell (most : Limits) (cell : ℕ × List ℕ) : Type 0 where
  pub positive : 0 < cell.0
  pub address : IsShortNumber cell.0
  pub some : 0 < length cell.1
  pub few : length cell.1 ≤ most.arguments
  pub fields : Each IsShortNumber cell.1

-- the cell at an address, if there is one, is such a cell
pub record HasPlainCell (most : Limits) (h : Cells) (a : ℕ) : Type 0 where
  pub cell : (fields : List ℕ) → cell_at h a ≡ Some fields → IsPlainCell most (a, fields)

pub record IsPlainState (most : Limits) (s : Stack) (h : Cells) : Type 0 where
  pub short : length s ≤ MOST_VALUES
  pub values : Each IsShortNumber s
  pub few : length (entries h) ≤ most.cells
  pub cells : Each (IsPlainCell most) (entries h)
