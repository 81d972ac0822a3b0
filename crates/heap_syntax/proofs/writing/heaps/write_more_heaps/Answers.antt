use Rattle.std.proofs.Common.{◌≡◌, ◌+◌, drop, ap, arith, refl}
use Rattle.std.specs.Prelude.{map}
use Rattle.cyc_lex.specs.Writing.{write_all}
use Rattle.cyc_grammar.specs.Syntax.{words_many, after}
use Rattle.cyc_grammar.proofs.WrittenTexts.{left-item, none-at, wrote-item, wrote-all, wrote-behind, item-fits}
use Rattle.heap_syntax.specs.Trees.{heap_of}
use Rattle.heap_syntax.specs.Grammar.{spatial, heap}
use Rattle.heap_syntax.specs.Words.{marked}
use Rattle.heap_syntax.proofs.writing.heaps.write_more_heaps.Goals as goal

pub write_heap-requires : goal.write_heap-requires
write_heap-requires g c =
    let left = ap (map (heap_of g.F.TermForm.seen))
    (left-item c.args.trees.now c.loop-tree.tree-index c.tree-item.result c.loop-tree-test.true c.tree-item.is) in
    λ k. (
      (refl, tt),
      (item-fits (after (marked c.args.between.now)
          (heap (g.F.TermForm.terms c.args.form.now) (spatial (g.F.TermForm.terms c.args.form.now))))
          (heap_of g.F.TermForm.seen c.tree-item.result) (map (heap_of g.F.TermForm.seen)
          (drop (c.loop-tree.tree-index + 1) c.args.trees.now))
          (map (heap_of g.F.TermForm.seen) (drop c.loop-tree.tree-index c.args.trees.now))
          left c.loop-tree.invariant.1).0,
    )

pub loop-tree-preserved : goal.loop-tree-preserved
loop-tree-preserved g c =
    let left = ap (map (heap_of g.F.TermForm.seen))
    (left-item c.args.trees.now c.loop-tree.tree-index c.tree-item.result c.loop-tree-test.true c.tree-item.is) in
    let wrote : c.write_heap.new.writer ≡ write_all c.loop-tree.writer
    ((after (marked c.args.between.now) (heap (g.F.TermForm.terms c.args.form.now)
    (spatial (g.F.TermForm.terms c.args.form.now)))).words (heap_of g.F.TermForm.seen c.tree-item.result))
    = wrote-behind _ _ _ _ _ c.in_ok-write.ensures c.in_ok-write_heap.ensures in (
      wrote-item (after (marked c.args.between.now) (heap (g.F.TermForm.terms c.args.form.now)
          (spatial (g.F.TermForm.terms c.args.form.now)))) c.loop-tree.writer c.write_heap.new.writer
          (write_all c.args.writer.now (words_many (after (marked c.args.between.now)
          (heap (g.F.TermForm.terms c.args.form.now) (spatial (g.F.TermForm.terms c.args.form.now))))
          (map (heap_of g.F.TermForm.seen) (c.args.trees.now)))) (heap_of g.F.TermForm.seen c.tree-item.result)
          (map (heap_of g.F.TermForm.seen) (drop (c.loop-tree.tree-index + 1) c.args.trees.now))
          (map (heap_of g.F.TermForm.seen) (drop c.loop-tree.tree-index c.args.trees.now))
          left wrote c.loop-tree.invariant.0,
      (item-fits (after (marked c.args.between.now)
          (heap (g.F.TermForm.terms c.args.form.now) (spatial (g.F.TermForm.terms c.args.form.now))))
          (heap_of g.F.TermForm.seen c.tree-item.result) (map (heap_of g.F.TermForm.seen)
          (drop (c.loop-tree.tree-index + 1) c.args.trees.now))
          (map (heap_of g.F.TermForm.seen) (drop c.loop-tree.tree-index c.args.trees.now))
          left c.loop-tree.invariant.1).1,
    )

pub returns : goal.returns
returns g c = wrote-all (after (marked c.args.between.now) (heap (g.F.TermForm.terms c.args.form.now)
    (spatial (g.F.TermForm.terms c.args.form.now)))) c.loop-tree.writer
    (write_all c.args.writer.now (words_many (after (marked c.args.between.now)
    (heap (g.F.TermForm.terms c.args.form.now) (spatial (g.F.TermForm.terms c.args.form.now))))
    (map (heap_of g.F.TermForm.seen) (c.args.trees.now)))) (map (heap_of g.F.TermForm.seen)
    (drop c.loop-tree.tree-index c.args.trees.now)) (ap (map (heap_of g.F.TermForm.seen))
    (none-at c.args.trees.now c.loop-tree.tree-index (omega arith))) c.loop-tree.invariant.0
