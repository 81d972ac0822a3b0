-- What a contract sees of heaps as trees, where their terms hold nothing borrowed, and of the predicates that are
-- known.
use Rattle.std.specs.Prelude.{ℕ, List, map}
use Rattle.heap_formula.specs.Definitions.{Definition}
use Rattle.heap_syntax.specs.declared.tree.SpatialTree.{SpatialTree}
use Rattle.heap_syntax.specs.declared.tree.SpatialTree.TheVariants as trees
use Rattle.heap_syntax.specs.declared.tree.HeapTree.{HeapTree}
use Rattle.heap_syntax.specs.Trees.{Spatial, Cell, Predicate, Heap}
use Rattle.heap_syntax.specs.declared.ends.tree.EndTree.{EndTree}
use Rattle.heap_syntax.specs.EndTrees.{End}
use Rattle.heap_reader.specs.declared.head.Head.{Head}

abbrev pub spatial_of : {T : Type 0} → SpatialTree T → Spatial T
spatial_of (trees.Cell address fields) = Cell address fields.items
spatial_of (trees.Predicate name args) = Predicate name.now args.items

abbrev pub heap_of : {T : Type 0} → HeapTree T → Heap T
heap_of h = record { pure = h.pure.items; spatial = map spatial_of h.spatial.items }

abbrev pub end_of : {T : Type 0} → EndTree T → End T
end_of e = record { number = e.number; disjuncts = map heap_of e.disjuncts.items }

-- a predicate's name and arity
pub record Heading : Type 0 where
  pub name : List ℕ
  pub arity : ℕ

abbrev pub heading_of : Head → Heading
heading_of h = record { name = h.name.now; arity = h.arity }

abbrev pub defined_heading : Definition → Heading
defined_heading d = record { name = d.name; arity = d.arity }

-- what uses of defined predicates are compared with
abbrev pub defined_headings : List Definition → List Heading
defined_headings ds = map defined_heading ds
