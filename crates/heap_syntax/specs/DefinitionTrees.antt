-- Trees without where they lie in memory.
use Rattle.std.specs.Prelude.{ℕ, List, map}
use Rattle.heap_syntax.specs.declared.definitions.tree.TermTree.{TermTree}
use Rattle.heap_syntax.specs.declared.tree.PureTree.{PureTree as AnyPureTree}
use Rattle.heap_syntax.specs.Trees as heaps
pub use Rattle.heap_syntax.specs.Trees.{Cell, Predicate}
use Rattle.heap_syntax.specs.declared.tree.SpatialTree.{SpatialTree}
use Rattle.heap_syntax.specs.declared.tree.SpatialTree.TheVariants as spatials
use Rattle.heap_syntax.specs.declared.tree.HeapTree.{HeapTree}
use Rattle.heap_syntax.specs.declared.definitions.tree.DefinitionTree.{DefinitionTree}

-- a pure atom, a spatial atom and a heap over numbered variables
abbrev pub PureTree : Type 0
PureTree = AnyPureTree TermTree

abbrev pub Spatial : Type 0
Spatial = heaps.Spatial TermTree

abbrev pub Heap : Type 0
Heap = heaps.Heap TermTree

pub record Definition : Type 0 where
  pub name : List ℕ
  pub arity : ℕ
  pub cases : List Heap

-- ---- what a contract sees of the code's trees

abbrev pub spatial_of : SpatialTree TermTree → Spatial
spatial_of (spatials.Cell address fields) = Cell address fields.items
spatial_of (spatials.Predicate name args) = Predicate name.now args.items

abbrev pub heap_of : HeapTree TermTree → Heap
heap_of h = record { pure = h.pure.items; spatial = map spatial_of h.spatial.items }

abbrev pub definition_of : DefinitionTree → Definition
definition_of d = record { name = d.name.now; arity = d.arity; cases = map heap_of d.cases.items }
