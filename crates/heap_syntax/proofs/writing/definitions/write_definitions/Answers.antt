use Rattle.std.proofs.Common.{◌≡◌, ◌+◌, drop, ap, arith}
use Rattle.std.specs.Prelude.{map}
use Rattle.cyc_lex.specs.Writing.{write_all}
use Rattle.cyc_grammar.specs.Syntax.{words_many}
use Rattle.cyc_grammar.proofs.WrittenTexts.{left-item, none-at, wrote-item, wrote-all, item-fits}
use Rattle.heap_syntax.specs.DefinitionTrees.{definition_of}
use Rattle.heap_syntax.specs.DefinitionGrammar.{definition, definitions}
use Rattle.heap_syntax.proofs.writing.definitions.write_definitions.Goals as goal

pub write_definition-requires : goal.write_definition-requires
write_definition-requires c =
    let left = ap (map definition_of)
    (left-item c.args.trees.now c.loop-tree.tree-index c.tree-item.result c.loop-tree-test.true c.tree-item.is) in
    (item-fits definition (definition_of c.tree-item.result)
    (map definition_of (drop (c.loop-tree.tree-index + 1) c.args.trees.now))
    (map definition_of (drop c.loop-tree.tree-index c.args.trees.now)) left c.loop-tree.invariant.1).0

pub loop-tree-preserved : goal.loop-tree-preserved
unfolding definitions
loop-tree-preserved c =
    let left = ap (map definition_of)
    (left-item c.args.trees.now c.loop-tree.tree-index c.tree-item.result c.loop-tree-test.true c.tree-item.is) in
    let wrote : c.write_definition.new.writer ≡ write_all c.loop-tree.writer
    (definition.words (definition_of c.tree-item.result)) = c.in_ok-write_definition.ensures in (
      wrote-item definition c.loop-tree.writer c.write_definition.new.writer
          (write_all c.args.writer.now (words_many definition (map definition_of (c.args.trees.now))))
          (definition_of c.tree-item.result) (map definition_of (drop (c.loop-tree.tree-index + 1) c.args.trees.now))
          (map definition_of (drop c.loop-tree.tree-index c.args.trees.now)) left wrote c.loop-tree.invariant.0,
      (item-fits definition (definition_of c.tree-item.result)
          (map definition_of (drop (c.loop-tree.tree-index + 1) c.args.trees.now))
          (map definition_of (drop c.loop-tree.tree-index c.args.trees.now)) left c.loop-tree.invariant.1).1,
    )

pub returns : goal.returns
unfolding definitions
returns c = wrote-all definition c.loop-tree.writer
    (write_all c.args.writer.now (words_many definition (map definition_of (c.args.trees.now))))
    (map definition_of (drop c.loop-tree.tree-index c.args.trees.now))
    (ap (map definition_of) (none-at c.args.trees.now c.loop-tree.tree-index (omega arith))) c.loop-tree.invariant.0
