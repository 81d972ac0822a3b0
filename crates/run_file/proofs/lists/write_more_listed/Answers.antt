use Rattle.std.proofs.Common.{◌≡◌, ◌+◌, drop, ap, arith}
use Rattle.std.specs.Prelude.{map}
use Rattle.cyc_lex.specs.Writing.{write_all}
use Rattle.cyc_grammar.specs.Syntax.{words_many, after}
use Rattle.cyc_grammar.proofs.WrittenTexts.{left-item, none-at, wrote-item, wrote-all, wrote-behind, item-fits}
use Rattle.heap_syntax.specs.Words.{comma}
use Rattle.run_file.proofs.lists.write_more_listed.Goals as goal

pub write_item-requires : goal.write_item-requires
write_item-requires g c =
    let item = after comma (g.I.Item.syntax c.args.item.now) in
    let left = ap (map g.I.Item.seen)
    (left-item c.args.trees.now c.loop-tree.tree-index c.tree-item.result c.loop-tree-test.true c.tree-item.is) in
    (item-fits item (g.I.Item.seen c.tree-item.result)
    (map g.I.Item.seen (drop (c.loop-tree.tree-index + 1) c.args.trees.now))
    (map g.I.Item.seen (drop c.loop-tree.tree-index c.args.trees.now)) left c.loop-tree.invariant.1).0

pub loop-tree-preserved : goal.loop-tree-preserved
loop-tree-preserved g c =
    let item = after comma (g.I.Item.syntax c.args.item.now) in
    let left = ap (map g.I.Item.seen)
    (left-item c.args.trees.now c.loop-tree.tree-index c.tree-item.result c.loop-tree-test.true c.tree-item.is) in
    let wrote : c.write_item.new.writer ≡ write_all c.loop-tree.writer (item.words (g.I.Item.seen c.tree-item.result))
    = wrote-behind _ _ _ _ _ c.in_ok-symbol.ensures.ok c.in_ok-write_item.ensures in (
      wrote-item item c.loop-tree.writer c.write_item.new.writer
          (write_all c.args.writer.now (words_many item (map g.I.Item.seen c.args.trees.now)))
          (g.I.Item.seen c.tree-item.result) (map g.I.Item.seen (drop (c.loop-tree.tree-index + 1) c.args.trees.now))
          (map g.I.Item.seen (drop c.loop-tree.tree-index c.args.trees.now)) left wrote c.loop-tree.invariant.0,
      (item-fits item (g.I.Item.seen c.tree-item.result)
          (map g.I.Item.seen (drop (c.loop-tree.tree-index + 1) c.args.trees.now))
          (map g.I.Item.seen (drop c.loop-tree.tree-index c.args.trees.now)) left c.loop-tree.invariant.1).1,
    )

pub returns : goal.returns
returns g c = wrote-all (after comma (g.I.Item.syntax c.args.item.now)) c.loop-tree.writer
    (write_all c.args.writer.now (words_many (after comma (g.I.Item.syntax c.args.item.now))
    (map g.I.Item.seen c.args.trees.now))) (map g.I.Item.seen (drop c.loop-tree.tree-index c.args.trees.now))
    (ap (map g.I.Item.seen) (none-at c.args.trees.now c.loop-tree.tree-index (omega arith))) c.loop-tree.invariant.0
