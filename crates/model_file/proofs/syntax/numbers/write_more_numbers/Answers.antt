use Rattle.std.proofs.Common.{◌≡◌, ◌+◌, get_or, drop, arith}
use Rattle.cyc_lex.specs.Writing.{write_all}
use Rattle.cyc_grammar.specs.Syntax.{words_many, one, after}
use Rattle.cyc_grammar.specs.Classes.{number}
use Rattle.cyc_grammar.proofs.WrittenTexts.{left-at, none-at, wrote-item, wrote-all}
use Rattle.heap_syntax.specs.Words.{comma}
use Rattle.model_file.proofs.ModelWriting.{behind-comma-wrote}
use Rattle.model_file.proofs.syntax.numbers.write_more_numbers.Goals as goal

pub loop-tree-preserved : goal.loop-tree-preserved
loop-tree-preserved c =
    let item = after comma (one number) in
    let left = left-at c.args.trees.now c.loop-tree.tree-index 0 c.loop-tree-test.true in
    let wrote : c.number.new.self ≡ write_all c.loop-tree.writer
    (item.words (get_or c.args.trees.now c.loop-tree.tree-index 0))
    = behind-comma-wrote c.loop-tree.writer c.symbol.new.self c.number.new.self
    (get_or c.args.trees.now c.loop-tree.tree-index 0) c.in_ok-symbol.ensures.ok c.in_ok-number.ensures.ok in
    wrote-item item c.loop-tree.writer c.number.new.self
    (write_all c.args.writer.now (words_many item c.args.trees.now))
    (get_or c.args.trees.now c.loop-tree.tree-index 0) (drop (c.loop-tree.tree-index + 1) c.args.trees.now)
    (drop c.loop-tree.tree-index c.args.trees.now) left wrote c.loop-tree.invariant

pub returns : goal.returns
returns c = wrote-all (after comma (one number)) c.loop-tree.writer
    (write_all c.args.writer.now (words_many (after comma (one number)) c.args.trees.now))
    (drop c.loop-tree.tree-index c.args.trees.now) (none-at c.args.trees.now c.loop-tree.tree-index (omega arith))
    c.loop-tree.invariant
