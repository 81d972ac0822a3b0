-- Stacks and heaps of bounded size, and their order.
use Rattle.std.specs.Prelude.{◌≡◌, ℕ, zero, suc, ◌<◌, ◌≤◌, List, [], ◌∷◌, ◌⊎◌, length, Option, Some}
use Rattle.std.specs.declared.cmp.Ordering.{Ordering}
use Rattle.std.specs.Ordering.{ordering_then, nat_cmp}
use Rattle.std.specs.Option.{option_cmp}
use Rattle.std.specs.Cmp.Lexicographic.{slice_cmp}
use Rattle.heap_formula.specs.declared.atoms.Spatial.{Spatial}
use Rattle.heap_formula.specs.declared.atoms.Spatial.TheVariants.{Cell, Pred}
use Rattle.heap_formula.specs.Symbolic.{SymbolicHeap}
use Rattle.heap_formula.specs.Definitions.{Definition}
use Rattle.heap_formula.specs.Words.{Each, OneOf}
use Rattle.heap_formula.specs.Values.{Stack}
use Rattle.heap_formula.specs.Cells.{Cells, cell_at}

-- a cell atom with this many fields
abbrev pub HasFields : ℕ → Spatial → Type 0
HasFields k (Cell t ts) = length ts ≡ k
HasFields k (Pred p ts) = ⊥

-- some cell of the formula has this many fields
abbrev pub IsWidthIn : ℕ → SymbolicHeap → Type 0
IsWidthIn k a = OneOf (HasFields k) a.spatial

-- some cell of the definitions or of the entailment has this many fields
abbrev pub IsWidth : List Definition → SymbolicHeap → List SymbolicHeap → ℕ → Type 0
IsWidth ds a bs k = OneOf (λ d. OneOf (IsWidthIn k) d.cases) ds ⊎ OneOf (IsWidthIn k) (a ∷ bs)

-- a cell of size n: fields from 0 to n, so many as IsCount allows, and at least one
pub record IsSmallCell (n : ℕ) (IsCount : ℕ → Type 0) (vs : List ℕ) : Type 0 where
  pub count : IsCount (length vs)
  pub positive : 0 < length vs
  pub fields : Each (λ v. v ≤ n) vs

-- a stack of so many entries and a heap: addresses from 1 to n, entries and fields from 0 to n
pub record IsOfSize (n long : ℕ) (IsCount : ℕ → Type 0) (s : Stack) (h : Cells) : Type 0 where
  pub stack : length s ≡ long
  pub entries : Each (λ v. v ≤ n) s
  pub addresses : (a : ℕ) (vs : List ℕ) → cell_at h a ≡ Some vs → (0 < a) × (a ≤ n)
  pub cells : (a : ℕ) (vs : List ℕ) → cell_at h a ≡ Some vs → IsSmallCell n IsCount vs

-- by the number of fields, then by the fields
abbrev pub fields_cmp : List ℕ → List ℕ → Ordering
fields_cmp vs us = ordering_then (nat_cmp (length vs) (length us)) (slice_cmp nat_cmp vs us)

-- a missing cell first
abbrev pub cell_cmp : Option (List ℕ) → Option (List ℕ) → Ordering
cell_cmp = option_cmp fields_cmp

-- what stands at n addresses from this one on
abbrev pub rows : Cells → ℕ → ℕ → List (Option (List ℕ))
rows h a zero = []
rows h a (suc n) = cell_at h a ∷ rows h (suc a) n

-- heaps are read from address 1 on
abbrev pub heap_cmp : ℕ → Cells → Cells → Ordering
heap_cmp n g h = slice_cmp cell_cmp (rows g 1 n) (rows h 1 n)

-- by stack as a list, then by heap
abbrev pub pair_cmp : ℕ → Stack → Cells → Stack → Cells → Ordering
pair_cmp n s h t g = ordering_then (slice_cmp nat_cmp s t) (heap_cmp n h g)
