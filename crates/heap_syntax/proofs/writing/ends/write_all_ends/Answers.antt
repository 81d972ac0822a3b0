use Rattle.std.proofs.Common.{◌≡◌, ◌+◌, drop, ap, arith, refl}
use Rattle.std.specs.Prelude.{map}
use Rattle.cyc_lex.specs.Writing.{write_all}
use Rattle.cyc_grammar.specs.Syntax.{words_many}
use Rattle.cyc_grammar.proofs.WrittenTexts.{left-item, none-at, wrote-item, wrote-all, item-fits}
use Rattle.heap_syntax.specs.Grammar.{spatial}
use Rattle.heap_syntax.specs.EndTrees.{end_of}
use Rattle.heap_syntax.specs.EndGrammar.{end}
use Rattle.heap_syntax.proofs.writing.ends.write_all_ends.Goals as goal

pub write_end-requires : goal.write_end-requires
write_end-requires g c =
    let left = ap (map (end_of g.F.TermForm.seen))
    (left-item c.args.trees.now c.loop-tree.tree-index c.tree-item.result c.loop-tree-test.true c.tree-item.is) in
    λ k. (
      (refl, tt),
      (item-fits (end (g.F.TermForm.terms c.args.form.now) (spatial (g.F.TermForm.terms c.args.form.now)))
          (end_of g.F.TermForm.seen c.tree-item.result) (map (end_of g.F.TermForm.seen)
          (drop (c.loop-tree.tree-index + 1) c.args.trees.now))
          (map (end_of g.F.TermForm.seen) (drop c.loop-tree.tree-index c.args.trees.now))
          left c.loop-tree.invariant.1).0,
    )

pub loop-tree-preserved : goal.loop-tree-preserved
loop-tree-preserved g c =
    let left = ap (map (end_of g.F.TermForm.seen))
    (left-item c.args.trees.now c.loop-tree.tree-index c.tree-item.result c.loop-tree-test.true c.tree-item.is) in
    let wrote : c.write_end.new.writer ≡ write_all c.loop-tree.writer
    ((end (g.F.TermForm.terms c.args.form.now) (spatial (g.F.TermForm.terms c.args.form.now))).words
    (end_of g.F.TermForm.seen c.tree-item.result)) = c.in_ok-write_end.ensures in (
      wrote-item (end (g.F.TermForm.terms c.args.form.now) (spatial (g.F.TermForm.terms c.args.form.now)))
          c.loop-tree.writer c.write_end.new.writer (write_all c.args.writer.now
          (words_many (end (g.F.TermForm.terms c.args.form.now) (spatial (g.F.TermForm.terms c.args.form.now)))
          (map (end_of g.F.TermForm.seen) (c.args.trees.now)))) (end_of g.F.TermForm.seen c.tree-item.result)
          (map (end_of g.F.TermForm.seen) (drop (c.loop-tree.tree-index + 1) c.args.trees.now))
          (map (end_of g.F.TermForm.seen) (drop c.loop-tree.tree-index c.args.trees.now))
          left wrote c.loop-tree.invariant.0,
      (item-fits (end (g.F.TermForm.terms c.args.form.now) (spatial (g.F.TermForm.terms c.args.form.now)))
          (end_of g.F.TermForm.seen c.tree-item.result)
          (map (end_of g.F.TermForm.seen) (drop (c.loop-tree.tree-index + 1) c.args.trees.now))
          (map (end_of g.F.TermForm.seen) (drop c.loop-tree.tree-index c.args.trees.now))
          left c.loop-tree.invariant.1).1,
    )

pub returns : goal.returns
returns g c = wrote-all (end (g.F.TermForm.terms c.args.form.now) (spatial (g.F.TermForm.terms c.args.form.now)))
    c.loop-tree.writer (write_all c.args.writer.now
    (words_many (end (g.F.TermForm.terms c.args.form.now) (spatial (g.F.TermForm.terms c.args.form.now)))
    (map (end_of g.F.TermForm.seen) (c.args.trees.now))))
    (map (end_of g.F.TermForm.seen) (drop c.loop-tree.tree-index c.args.trees.now))
    (ap (map (end_of g.F.TermForm.seen)) (none-at c.args.trees.now c.loop-tree.tree-index (omega arith)))
    c.loop-tree.invariant.0
