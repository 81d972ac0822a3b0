-- Cells that fit the values' types.
use Rattle.std.specs.Prelude.{ℕ, ◌<◌, ◌^◌, length}
use Rattle.heap_formula.specs.Words.{Each}
use Rattle.model_file.specs.Trees.{Cell}

-- a cell of a heap: a positive address and a field at least
pub record IsSmallCell (c : Cell) : Type 0 where
  pub positive : 0 < c.address
  pub some : 0 < length c.fields

-- a number of at most nine digits, and a cell of such numbers
abbrev pub IsShortNumber : ℕ → Type 0
IsShortNumber n = n < 10 ^ 9

pub record IsShortCell (c : Cell) : Type 0 where
  pub address : IsShortNumber c.address
  pub fields : Each IsShortNumber c.fields
