-- Heaps whose addresses and fields are bounded, and heaps up to an address.
use Rattle.std.specs.Prelude.{◌≡◌, ℕ, ◌<◌, ◌≤◌, List, Some}
use Rattle.heap_formula.specs.Words.{Each, OneOf}
use Rattle.heap_formula.specs.Cells.{Cells, cell_at, IsUnion}

-- no number is above n
abbrev pub AreAtMost : ℕ → List ℕ → Type 0
AreAtMost n vs = Each (λ v. v ≤ n) vs

-- the addresses are from 1 to n, the fields from 0 to n
pub record IsWithin (n : ℕ) (h : Cells) : Type 0 where
  pub addresses : (a : ℕ) (vs : List ℕ) → cell_at h a ≡ Some vs → (0 < a) × (a ≤ n)
  pub fields : (a : ℕ) (vs : List ℕ) → cell_at h a ≡ Some vs → AreAtMost n vs

-- up to the address n the two heaps have the same cells
pub record SameUpTo (n : ℕ) (g h : Cells) : Type 0 where
  pub same : (a : ℕ) → a ≤ n → cell_at g a ≡ cell_at h a

-- up to the address n one of the heaps has the cells of h
abbrev pub IsAmong : ℕ → List Cells → Cells → Type 0
IsAmong n hs h = OneOf (λ g. SameUpTo n g h) hs

-- h is the disjoint union of two heaps that have the cells of these two up to the address n
pub record Unites (n : ℕ) (x y h : Cells) : Type 0 where
  pub part : Cells
  pub rest : Cells
  pub first : SameUpTo n x part
  pub others : SameUpTo n y rest
  pub union : IsUnion part rest h
