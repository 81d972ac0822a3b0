-- Trees of heaps without where they lie in memory; T is the type of the terms.
use Rattle.std.specs.Prelude.{ℕ, List, map}
use Rattle.heap_syntax.specs.declared.tree.PureTree.{PureTree}
use Rattle.heap_syntax.specs.declared.tree.SpatialTree.{SpatialTree}
use Rattle.heap_syntax.specs.declared.tree.SpatialTree.TheVariants as spatials
use Rattle.heap_syntax.specs.declared.tree.HeapTree.{HeapTree}

-- a spatial atom: a cell's address and fields, or a predicate's name and arguments
pub data Spatial (T : Type 0) : Type 0 where
  Cell : T → List T → Spatial T
  Predicate : List ℕ → List T → Spatial T

pub record Heap (T : Type 0) : Type 0 where
  pub pure : List (PureTree T)
  pub spatial : List (Spatial T)

-- ---- what a contract sees of the code's trees, where it sees each term by seen

abbrev pub pure_of : {T S : Type 0} → (T → S) → PureTree T → PureTree S
pure_of seen p = record { left = seen p.left; is_equation = p.is_equation; right = seen p.right }

abbrev pub spatial_of : {T S : Type 0} → (T → S) → SpatialTree T → Spatial S
spatial_of seen (spatials.Cell address fields) = Cell (seen address) (map seen fields.items)
spatial_of seen (spatials.Predicate name args) = Predicate name.now (map seen args.items)

abbrev pub heap_of : {T S : Type 0} → (T → S) → HeapTree T → Heap S
heap_of seen h = record { pure = map (pure_of seen) h.pure.items; spatial = map (spatial_of seen) h.spatial.items }
