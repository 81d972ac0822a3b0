use Rattle.std.proofs.Common.{◌≡◌, ◌+◌, drop, ap, arith, refl}
use Rattle.std.specs.Prelude.{map}
use Rattle.cyc_lex.specs.Writing.{write_all}
use Rattle.cyc_grammar.specs.Syntax.{words_many, after}
use Rattle.cyc_grammar.proofs.WrittenTexts.{left-item, none-at, wrote-item, wrote-all, wrote-behind, item-fits}
use Rattle.heap_syntax.specs.Words.{comma}
use Rattle.heap_syntax.specs.Trees.{pure_of}
use Rattle.heap_syntax.specs.Grammar.{pure}
use Rattle.heap_syntax.proofs.writing.atoms.write_more_pures.Goals as goal

pub write_pure-requires : goal.write_pure-requires
write_pure-requires g c =
    let left = ap (map (pure_of g.F.TermForm.seen))
    (left-item c.args.trees.now c.loop-tree.tree-index c.tree-item.result c.loop-tree-test.true c.tree-item.is) in
    λ k. (
      (refl, tt),
      (item-fits (after comma (pure (g.F.TermForm.terms c.args.form.now).syntax))
          ((pure_of g.F.TermForm.seen) c.tree-item.result) (map (pure_of g.F.TermForm.seen)
          (drop (c.loop-tree.tree-index + 1) c.args.trees.now))
          (map (pure_of g.F.TermForm.seen) (drop c.loop-tree.tree-index c.args.trees.now))
          left c.loop-tree.invariant.1).0,
    )

pub loop-tree-preserved : goal.loop-tree-preserved
loop-tree-preserved g c =
    let left = ap (map (pure_of g.F.TermForm.seen))
    (left-item c.args.trees.now c.loop-tree.tree-index c.tree-item.result c.loop-tree-test.true c.tree-item.is) in
    let wrote : c.write_pure.new.writer ≡ write_all c.loop-tree.writer
    ((after comma (pure (g.F.TermForm.terms c.args.form.now).syntax)).words
    ((pure_of g.F.TermForm.seen) c.tree-item.result))
    = wrote-behind _ _ _ _ _ c.in_ok-symbol.ensures.ok c.in_ok-write_pure.ensures in (
      wrote-item (after comma (pure (g.F.TermForm.terms c.args.form.now).syntax))
          c.loop-tree.writer c.write_pure.new.writer (write_all c.args.writer.now
          (words_many (after comma (pure (g.F.TermForm.terms c.args.form.now).syntax))
          (map (pure_of g.F.TermForm.seen) c.args.trees.now))) ((pure_of g.F.TermForm.seen) c.tree-item.result)
          (map (pure_of g.F.TermForm.seen) (drop (c.loop-tree.tree-index + 1) c.args.trees.now))
          (map (pure_of g.F.TermForm.seen) (drop c.loop-tree.tree-index c.args.trees.now))
          left wrote c.loop-tree.invariant.0,
      (item-fits (after comma (pure (g.F.TermForm.terms c.args.form.now).syntax))
          ((pure_of g.F.TermForm.seen) c.tree-item.result) (map (pure_of g.F.TermForm.seen)
          (drop (c.loop-tree.tree-index + 1) c.args.trees.now))
          (map (pure_of g.F.TermForm.seen) (drop c.loop-tree.tree-index c.args.trees.now))
          left c.loop-tree.invariant.1).1,
    )

pub returns : goal.returns
returns g c = wrote-all (after comma (pure (g.F.TermForm.terms c.args.form.now).syntax)) c.loop-tree.writer
    (write_all c.args.writer.now (words_many (after comma (pure (g.F.TermForm.terms c.args.form.now).syntax))
    (map (pure_of g.F.TermForm.seen) c.args.trees.now))) (map (pure_of g.F.TermForm.seen)
    (drop c.loop-tree.tree-index c.args.trees.now)) (ap (map (pure_of g.F.TermForm.seen))
    (none-at c.args.trees.now c.loop-tree.tree-index (omega arith))) c.loop-tree.invariant.0
