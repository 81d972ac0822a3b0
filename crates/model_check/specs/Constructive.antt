-- Formulas whose variables have at most one value in a given heap.
use Rattle.std.specs.Prelude.{◌≡◌, ℕ, List, Some}
use Rattle.heap_formula.specs.declared.terms.Term.{Term}
use Rattle.heap_formula.specs.declared.terms.Term.TheVariants.{Nil, Univ}
use Rattle.heap_formula.specs.declared.atoms.Pure.TheVariants.{Eq}
use Rattle.heap_formula.specs.declared.atoms.Spatial.{Spatial}
use Rattle.heap_formula.specs.declared.atoms.Spatial.TheVariants.{Cell, Pred}
use Rattle.heap_formula.specs.Symbolic.{SymbolicHeap}
use Rattle.heap_formula.specs.Definitions.{Definition}
use Rattle.heap_formula.specs.Words.{Each}
use Rattle.heap_formula.specs.Values.{Stack, value, values}
use Rattle.heap_formula.specs.Cells.{Cells, cell_at}
use Rattle.heap_formula.specs.Meaning.{PureHolds}
use Rattle.heap_formula.specs.Closedness.{InHeap}
use Rattle.cyc_basics.specs.Words.{IsMember}

-- the known terms of a formula: nil and the universals, the other side of an equation with a known side, and the fields
-- of a cell with a known address
pub data Known (a : SymbolicHeap) : Term → Type 0 where
  nil : Known a Nil
  universal : (n : ℕ) → Known a (Univ n)
  right_side : (t u : Term) → IsMember (Eq t u) a.pure → Known a t → Known a u
  left_side : (t u : Term) → IsMember (Eq t u) a.pure → Known a u → Known a t
  field : (t u : Term) (ts : List Term) → IsMember (Cell t ts) a.spatial → IsMember u ts → Known a t → Known a u

-- each term of the formula is known
abbrev pub IsConstructive : SymbolicHeap → Type 0
IsConstructive a = InHeap (Known a) a

-- each case of each definition is constructive
abbrev pub AreConstructive : List Definition → Type 0
AreConstructive ds = Each (λ d. Each IsConstructive d.cases) ds

-- a cell atom is a cell of the heap
abbrev pub CellFits : Cells → Stack → Stack → Spatial → Type 0
CellFits h s e (Cell t ts) = cell_at h (value s e t) ≡ Some (values s e ts)
CellFits h s e (Pred p ts) = Unit {0}

-- the pure atoms hold, and the cells are cells of the heap
pub record Fits (h : Cells) (s e : Stack) (a : SymbolicHeap) : Type 0 where
  pub pure : Each (PureHolds s e) a.pure
  pub cells : Each (CellFits h s e) a.spatial

-- these values of the locals fit, and no others do: at the formula's terms any others that fit give the same values
pub record IsOnly (h : Cells) (s e : Stack) (a : SymbolicHeap) : Type 0 where
  pub fits : Fits h s e a
  pub only : (other : Stack) → Fits h s other a → InHeap (λ t. value s other t ≡ value s e t) a

-- each cell of g is a cell of h
pub record Inside (g h : Cells) : Type 0 where
  pub same : (a : ℕ) (vs : List ℕ) → cell_at g a ≡ Some vs → cell_at h a ≡ Some vs
