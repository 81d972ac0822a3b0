use Rattle.std.proofs.Common.{◌≡◌, ◌+◌, drop, ap, arith}
use Rattle.std.specs.Prelude.{map}
use Rattle.cyc_lex.specs.Writing.{write_all}
use Rattle.cyc_grammar.specs.Syntax.{words_many, after}
use Rattle.cyc_grammar.proofs.WrittenTexts.{left-item, none-at, wrote-item, wrote-all, wrote-behind, item-fits}
use Rattle.heap_syntax.specs.Words.{comma}
use Rattle.model_file.specs.Trees.{cell_of}
use Rattle.model_file.specs.Grammar.{cell}
use Rattle.model_file.proofs.syntax.cell_list.write_more_cells.Goals as goal

pub write_cell-requires : goal.write_cell-requires
write_cell-requires c =
    let left = ap (map cell_of)
    (left-item c.args.trees.now c.loop-tree.tree-index c.tree-item.result c.loop-tree-test.true c.tree-item.is) in
    (item-fits (after comma cell) (cell_of c.tree-item.result)
    (map cell_of (drop (c.loop-tree.tree-index + 1) c.args.trees.now))
    (map cell_of (drop c.loop-tree.tree-index c.args.trees.now)) left c.loop-tree.invariant.1).0

pub loop-tree-preserved : goal.loop-tree-preserved
loop-tree-preserved c =
    let item = after comma cell in
    let left = ap (map cell_of)
    (left-item c.args.trees.now c.loop-tree.tree-index c.tree-item.result c.loop-tree-test.true c.tree-item.is) in
    let wrote : c.write_cell.new.writer ≡ write_all c.loop-tree.writer (item.words (cell_of c.tree-item.result))
    = wrote-behind _ _ _ _ _ c.in_ok-symbol.ensures.ok c.in_ok-write_cell.ensures in (
      wrote-item item c.loop-tree.writer c.write_cell.new.writer
          (write_all c.args.writer.now (words_many item (map cell_of c.args.trees.now))) (cell_of c.tree-item.result)
          (map cell_of (drop (c.loop-tree.tree-index + 1) c.args.trees.now))
          (map cell_of (drop c.loop-tree.tree-index c.args.trees.now)) left wrote c.loop-tree.invariant.0,
      (item-fits item (cell_of c.tree-item.result) (map cell_of (drop (c.loop-tree.tree-index + 1) c.args.trees.now))
          (map cell_of (drop c.loop-tree.tree-index c.args.trees.now)) left c.loop-tree.invariant.1).1,
    )

pub returns : goal.returns
returns c = wrote-all (after comma cell) c.loop-tree.writer
    (write_all c.args.writer.now (words_many (after comma cell) (map cell_of c.args.trees.now)))
    (map cell_of (drop c.loop-tree.tree-index c.args.trees.now))
    (ap (map cell_of) (none-at c.args.trees.now c.loop-tree.tree-index (omega arith))) c.loop-tree.invariant.0
