use Rattle.heap_reader.specs.Small.{IsSmallHeap}
use Rattle.heap_reader.specs.Trees.{heap_of}
use Rattle.heap_reader.specs.Values.{heap_value}
use Rattle.heap_reader.proofs.Loops.{made_of, left_of}
use Rattle.heap_reader.proofs.values.heap_values.Goals as goal

pub loop-tree-preserved : goal.loop-tree-preserved
loop-tree-preserved g c = (
  made_of heap_of (heap_value g.F.TermReader.value c.args.heads.now)
      c.args.trees.now c.loop-tree.tree-index c.tree-item.result c.loop-tree.heaps.items c.push.new.self.items
      c.in_ok-heap_value.field-0 c.loop-tree-test.true c.tree-item.is c.in_ok-heap_value.ensures
      c.in_ok-push.ensures.items c.loop-tree.invariant.0,
  left_of heap_of (IsSmallHeap g.F.TermReader.value)
      c.args.trees.now c.loop-tree.tree-index c.tree-item.result c.loop-tree-test.true c.tree-item.is
      c.loop-tree.invariant.1,
)
