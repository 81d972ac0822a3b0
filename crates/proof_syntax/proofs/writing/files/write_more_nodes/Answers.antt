use Rattle.std.proofs.Common.{◌≡◌, ◌+◌, drop, ap, arith}
use Rattle.std.specs.Prelude.{map}
use Rattle.cyc_lex.specs.Writing.{write_all}
use Rattle.cyc_grammar.specs.Syntax.{words_many}
use Rattle.cyc_grammar.proofs.WrittenTexts.{left-item, none-at, wrote-item, wrote-all, item-fits}
use Rattle.proof_syntax.specs.Trees.{node_of}
use Rattle.proof_syntax.specs.Grammar.{node, more_nodes}
use Rattle.proof_syntax.proofs.writing.files.write_more_nodes.Goals as goal

pub write_node-requires : goal.write_node-requires
write_node-requires c =
    let left = ap (map node_of)
    (left-item c.args.trees.now c.loop-tree.tree-index c.tree-item.result c.loop-tree-test.true c.tree-item.is) in
    (item-fits node (node_of c.tree-item.result) (map node_of (drop (c.loop-tree.tree-index + 1) c.args.trees.now))
    (map node_of (drop c.loop-tree.tree-index c.args.trees.now)) left c.loop-tree.invariant.1).0

pub loop-tree-preserved : goal.loop-tree-preserved
unfolding more_nodes
loop-tree-preserved c =
    let left = ap (map node_of)
    (left-item c.args.trees.now c.loop-tree.tree-index c.tree-item.result c.loop-tree-test.true c.tree-item.is) in
    let wrote : c.write_node.new.writer ≡ write_all c.loop-tree.writer (node.words (node_of c.tree-item.result))
    = c.in_ok-write_node.ensures in (
      wrote-item node c.loop-tree.writer c.write_node.new.writer
          (write_all c.args.writer.now (words_many node (map node_of (c.args.trees.now)))) (node_of c.tree-item.result)
          (map node_of (drop (c.loop-tree.tree-index + 1) c.args.trees.now))
          (map node_of (drop c.loop-tree.tree-index c.args.trees.now)) left wrote c.loop-tree.invariant.0,
      (item-fits node (node_of c.tree-item.result) (map node_of (drop (c.loop-tree.tree-index + 1) c.args.trees.now))
          (map node_of (drop c.loop-tree.tree-index c.args.trees.now)) left c.loop-tree.invariant.1).1,
    )

pub returns : goal.returns
unfolding more_nodes
returns c = wrote-all node c.loop-tree.writer (write_all c.args.writer.now
    (words_many node (map node_of (c.args.trees.now)))) (map node_of (drop c.loop-tree.tree-index c.args.trees.now))
    (ap (map node_of) (none-at c.args.trees.now c.loop-tree.tree-index (omega arith))) c.loop-tree.invariant.0
