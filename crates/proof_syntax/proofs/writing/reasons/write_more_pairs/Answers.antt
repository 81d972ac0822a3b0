use Rattle.std.proofs.Common.{◌≡◌, ◌+◌, get_or, drop, arith}
use Rattle.cyc_lex.specs.Writing.{write_all}
use Rattle.cyc_grammar.specs.Syntax.{words_many, after}
use Rattle.cyc_grammar.proofs.WrittenTexts.{left-at, none-at, wrote-item, wrote-all, wrote-behind, item-fits}
use Rattle.proof_syntax.specs.Grammar.{pair, comma}
use Rattle.proof_syntax.proofs.writing.reasons.write_more_pairs.Goals as goal

pub write_pair-requires : goal.write_pair-requires
write_pair-requires c =
    let left = left-at c.args.trees.now c.loop-tree.tree-index _ c.loop-tree-test.true in
    (item-fits (after comma pair) ((get_or c.args.trees.now c.loop-tree.tree-index _))
    (drop (c.loop-tree.tree-index + 1) c.args.trees.now) (drop c.loop-tree.tree-index c.args.trees.now)
    left c.loop-tree.invariant.1).0

pub loop-tree-preserved : goal.loop-tree-preserved
loop-tree-preserved c =
    let left = left-at c.args.trees.now c.loop-tree.tree-index _ c.loop-tree-test.true in
    let wrote : c.write_pair.new.writer ≡ write_all c.loop-tree.writer
    ((after comma pair).words ((get_or c.args.trees.now c.loop-tree.tree-index _)))
    = wrote-behind _ _ _ _ _ c.in_ok-symbol.ensures.ok c.in_ok-write_pair.ensures in (
      wrote-item (after comma pair) c.loop-tree.writer c.write_pair.new.writer
          (write_all c.args.writer.now (words_many (after comma pair) (c.args.trees.now)))
          ((get_or c.args.trees.now c.loop-tree.tree-index _)) (drop (c.loop-tree.tree-index + 1) c.args.trees.now)
          (drop c.loop-tree.tree-index c.args.trees.now) left wrote c.loop-tree.invariant.0,
      (item-fits (after comma pair) ((get_or c.args.trees.now c.loop-tree.tree-index _))
          (drop (c.loop-tree.tree-index + 1) c.args.trees.now) (drop c.loop-tree.tree-index c.args.trees.now)
          left c.loop-tree.invariant.1).1,
    )

pub returns : goal.returns
returns c = wrote-all (after comma pair) c.loop-tree.writer
    (write_all c.args.writer.now (words_many (after comma pair) (c.args.trees.now)))
    (drop c.loop-tree.tree-index c.args.trees.now) (none-at c.args.trees.now c.loop-tree.tree-index (omega arith))
    c.loop-tree.invariant.0
