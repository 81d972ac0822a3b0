-- Values over which those locals range that a heap does not determine.
use Rattle.std.specs.Prelude.{◌≡◌, ℕ, ◌+◌, ◌<◌, ◌≤◌, List, map, Some, slice_index}
use Rattle.heap_formula.specs.Symbolic.{SymbolicHeap}
use Rattle.heap_formula.specs.Definitions.{Definition}
use Rattle.heap_formula.specs.Fresh.{heap_bound, heap_exists}
use Rattle.heap_formula.specs.Words.{Each}
use Rattle.heap_formula.specs.Values.{Stack}
use Rattle.heap_formula.specs.Cells.{Cells, cell_at}
use Rattle.cyc_basics.specs.Words.{IsMember}

-- a renaming of values that leaves 0 and the numbers of the heap where they are
pub record Leaves (move : ℕ → ℕ) (h : Cells) : Type 0 where
  pub nil : move 0 ≡ 0
  pub cells : (a : ℕ) (vs : List ℕ) → cell_at h a ≡ Some vs → (move a ≡ a) × (map move vs ≡ vs)

-- each value of the stack is one of these; past its end it is 0
abbrev pub IsWithin : List ℕ → Stack → Type 0
IsWithin range e = (n : ℕ) → IsMember (slice_index e n) range

-- the numbers that occur: nil, and those of the heap
pub record Occur (h : Cells) (numbers : List ℕ) : Type 0 where
  pub nil : IsMember 0 numbers
  pub cells : (a : ℕ) (vs : List ℕ) → cell_at h a ≡ Some vs → IsMember a numbers × Each (λ v. IsMember v numbers) vs

-- a range: the numbers that occur, which are below the base, and so many fresh ones from the base on
pub record IsRange (range numbers : List ℕ) (base fresh : ℕ) : Type 0 where
  pub below : Each (λ v. v < base) numbers
  pub kept : (v : ℕ) → IsMember v numbers → IsMember v range
  pub others : (i : ℕ) → i < fresh → IsMember (base + i) range

-- no case has more variables than this: parameters and locals, counted by their greatest numbers
abbrev pub HasFewVariables : ℕ → SymbolicHeap → Type 0
HasFewVariables most b = heap_bound b + heap_exists b ≤ most

abbrev pub HaveFewVariables : ℕ → List Definition → Type 0
HaveFewVariables most ds = Each (λ d. Each (HasFewVariables most) d.cases) ds

-- a range for a stack and a heap, with so many fresh values
pub record IsRangeFor (s : Stack) (h : Cells) (fresh : ℕ) (range : List ℕ) : Type 0 where
  pub numbers : List ℕ
  pub base : ℕ
  pub occur : Occur h numbers
  pub stack : Each (λ v. IsMember v numbers) s
  pub is_range : IsRange range numbers base fresh

-- ---- what is taken into a list: it has what it had, and this number, these, the numbers of this cell, or of these

pub record Takes (old new : List ℕ) (number : ℕ) : Type 0 where
  pub kept : (v : ℕ) → IsMember v old → IsMember v new
  pub there : IsMember number new

pub record TakesAll (old new numbers : List ℕ) : Type 0 where
  pub kept : (v : ℕ) → IsMember v old → IsMember v new
  pub there : Each (λ v. IsMember v new) numbers

abbrev pub HasCell : Cells → List ℕ → ℕ → Type 0
HasCell h numbers a =
    (vs : List ℕ) → cell_at h a ≡ Some vs → IsMember a numbers × Each (λ v. IsMember v numbers) vs

pub record TakesCell (h : Cells) (old new : List ℕ) (a : ℕ) : Type 0 where
  pub kept : (v : ℕ) → IsMember v old → IsMember v new
  pub there : HasCell h new a

pub record TakesCells (h : Cells) (old new addresses : List ℕ) : Type 0 where
  pub kept : (v : ℕ) → IsMember v old → IsMember v new
  pub there : Each (HasCell h new) addresses
