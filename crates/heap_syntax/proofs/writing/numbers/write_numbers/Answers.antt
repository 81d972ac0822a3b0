use Rattle.std.proofs.Common.{◌≡◌, ◌+◌, get_or, drop, arith}
use Rattle.cyc_lex.specs.Writing.{write_all}
use Rattle.cyc_grammar.specs.Syntax.{words_many, one}
use Rattle.cyc_grammar.proofs.WrittenTexts.{left-at, none-at, wrote-item, wrote-all}
use Rattle.cyc_grammar.specs.Classes.{number}
use Rattle.heap_syntax.specs.Numbers.{numbers}
use Rattle.heap_syntax.proofs.writing.numbers.write_numbers.Goals as goal

pub loop-tree-preserved : goal.loop-tree-preserved
unfolding numbers write_all
loop-tree-preserved c =
    let left = left-at c.args.trees.now c.loop-tree.tree-index _ c.loop-tree-test.true in
    let wrote : c.number.new.self ≡ write_all c.loop-tree.writer
    ((one number).words ((get_or c.args.trees.now c.loop-tree.tree-index _))) = c.in_ok-number.ensures.ok in
    wrote-item (one number) c.loop-tree.writer c.number.new.self
    (write_all c.args.writer.now (words_many (one number) (c.args.trees.now)))
    ((get_or c.args.trees.now c.loop-tree.tree-index _)) (drop (c.loop-tree.tree-index + 1) c.args.trees.now)
    (drop c.loop-tree.tree-index c.args.trees.now) left wrote c.loop-tree.invariant

pub returns : goal.returns
unfolding numbers write_all
returns c = wrote-all (one number) c.loop-tree.writer
    (write_all c.args.writer.now (words_many (one number) (c.args.trees.now)))
    (drop c.loop-tree.tree-index c.args.trees.now) (none-at c.args.trees.now c.loop-tree.tree-index (omega arith))
    c.loop-tree.invariant
