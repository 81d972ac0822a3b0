-- Heaps with sorts. Each sort has the values 0, 1, 2, .. of its own, and its 0 is its nil.
use Rattle.std.specs.Prelude.{◌≡◌, ℕ, ◌<◌, List, nat_eq, if◌then◌else◌}
use Rattle.heap_formula.specs.Cells.{Cells, no_cells, one_cell, IsUnion}

-- a heap: for each sort of locations its cells. A cell is the number of its constructor, and then the values of its
-- fields
abbrev pub SortedCells : Type 0
SortedCells = ℕ → Cells

abbrev pub no_sorted_cells : SortedCells
no_sorted_cells sort = no_cells

abbrev pub one_sorted_cell : ℕ → ℕ → List ℕ → SortedCells
one_sorted_cell sort a content other = if nat_eq sort other then one_cell a content else no_cells

-- h is the disjoint union of two parts
pub record IsSortedUnion (left right h : SortedCells) : Type 0 where
  pub at : (sort : ℕ) → IsUnion (left sort) (right sort) (h sort)

-- h splits into a part of which A holds and a rest of which B holds
pub record SortedStar (A B : SortedCells → Type 0) (h : SortedCells) : Type 0 where
  pub part : SortedCells
  pub rest : SortedCells
  pub union : IsSortedUnion part rest h
  pub first : A part
  pub others : B rest

-- the heap is exactly one cell, at a location that is not nil
abbrev pub IsSortedCell : ℕ → ℕ → List ℕ → SortedCells → Type 0
IsSortedCell sort a content h = (0 < a) × (h ≡ one_sorted_cell sort a content)
