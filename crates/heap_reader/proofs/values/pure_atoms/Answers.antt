use Rattle.heap_reader.specs.Small.{IsSmallPure}
use Rattle.heap_reader.specs.Values.{pure_value}
use Rattle.heap_reader.proofs.Loops.{made, left, here, all_made}
use Rattle.heap_reader.proofs.values.pure_atoms.Goals as goal

pub loop-tree-preserved : goal.loop-tree-preserved
loop-tree-preserved g c = (
  made (pure_value g.F.TermReader.value)
      c.args.trees.now c.loop-tree.tree-index c.tree-item.result c.loop-tree.atoms.items c.push.new.self.items
      c.pure_atom.result c.loop-tree-test.true c.tree-item.is c.pure_atom.ensures c.in_ok-push.ensures.items
      c.loop-tree.invariant.0,
  left (IsSmallPure g.F.TermReader.value)
      c.args.trees.now c.loop-tree.tree-index c.tree-item.result c.loop-tree-test.true c.tree-item.is
      c.loop-tree.invariant.1,
)

pub pure_atom-requires : goal.pure_atom-requires
pure_atom-requires g c = here (IsSmallPure g.F.TermReader.value)
    c.args.trees.now c.loop-tree.tree-index c.tree-item.result c.loop-tree-test.true c.tree-item.is
    c.loop-tree.invariant.1

pub returns : goal.returns
returns g c =
    let all = all_made (pure_value g.F.TermReader.value)
    c.args.trees.now c.loop-tree.tree-index c.loop-tree.atoms.items c.loop-tree-test.false c.loop-tree.invariant.0
    in
    record { value = all.0; size = all.1 }
