use Rattle.std.proofs.Common.{◌≡◌, ◌+◌, drop, ap, arith, refl}
use Rattle.std.specs.Prelude.{map}
use Rattle.cyc_lex.specs.Writing.{write_all}
use Rattle.cyc_grammar.specs.Syntax.{words_many}
use Rattle.cyc_grammar.proofs.WrittenTexts.{left-item, none-at, wrote-item, wrote-all, item-fits}
use Rattle.heap_syntax.specs.LineTrees.{line_of}
use Rattle.heap_syntax.specs.LineGrammar.{line, lines}
use Rattle.proof_syntax.proofs.writing.lines.write_lines.Goals as goal

pub write_line-requires : goal.write_line-requires
write_line-requires g c =
    let left = ap (map (line_of g.F.VariableForm.seen))
    (left-item c.args.trees.now c.loop-tree.tree-index c.tree-item.result c.loop-tree-test.true c.tree-item.is) in
    λ k. (
      (refl, tt),
      (item-fits (line c.args.version (g.F.VariableForm.variables c.args.form.now))
          (line_of g.F.VariableForm.seen c.tree-item.result) (map (line_of g.F.VariableForm.seen)
          (drop (c.loop-tree.tree-index + 1) c.args.trees.now))
          (map (line_of g.F.VariableForm.seen) (drop c.loop-tree.tree-index c.args.trees.now))
          left c.loop-tree.invariant.1).0,
    )

pub loop-tree-preserved : goal.loop-tree-preserved
unfolding lines
loop-tree-preserved g c =
    let left = ap (map (line_of g.F.VariableForm.seen))
    (left-item c.args.trees.now c.loop-tree.tree-index c.tree-item.result c.loop-tree-test.true c.tree-item.is) in
    let wrote : c.write_line.new.writer ≡ write_all c.loop-tree.writer
    ((line c.args.version (g.F.VariableForm.variables c.args.form.now)).words
    (line_of g.F.VariableForm.seen c.tree-item.result)) = c.in_ok-write_line.ensures in (
      wrote-item (line c.args.version (g.F.VariableForm.variables c.args.form.now))
          c.loop-tree.writer c.write_line.new.writer (write_all c.args.writer.now
          (words_many (line c.args.version (g.F.VariableForm.variables c.args.form.now))
          (map (line_of g.F.VariableForm.seen) (c.args.trees.now)))) (line_of g.F.VariableForm.seen c.tree-item.result)
          (map (line_of g.F.VariableForm.seen) (drop (c.loop-tree.tree-index + 1) c.args.trees.now))
          (map (line_of g.F.VariableForm.seen) (drop c.loop-tree.tree-index c.args.trees.now))
          left wrote c.loop-tree.invariant.0,
      (item-fits (line c.args.version
          (g.F.VariableForm.variables c.args.form.now)) (line_of g.F.VariableForm.seen c.tree-item.result)
          (map (line_of g.F.VariableForm.seen) (drop (c.loop-tree.tree-index + 1) c.args.trees.now))
          (map (line_of g.F.VariableForm.seen) (drop c.loop-tree.tree-index c.args.trees.now))
          left c.loop-tree.invariant.1).1,
    )

pub returns : goal.returns
unfolding lines
returns g c = wrote-all (line c.args.version (g.F.VariableForm.variables c.args.form.now)) c.loop-tree.writer
    (write_all c.args.writer.now (words_many (line c.args.version (g.F.VariableForm.variables c.args.form.now))
    (map (line_of g.F.VariableForm.seen) (c.args.trees.now))))
    (map (line_of g.F.VariableForm.seen) (drop c.loop-tree.tree-index c.args.trees.now))
    (ap (map (line_of g.F.VariableForm.seen)) (none-at c.args.trees.now c.loop-tree.tree-index (omega arith)))
    c.loop-tree.invariant.0
