use Rattle.std.proofs.Common.{◌≡◌, sym, subst, refl}
use Rattle.std.specs.Prelude.{OnOk}
use Rattle.cyc_lex.specs.Writing.{write_all}
use Rattle.heap_syntax.proofs.SeenTrees.{heap-same}
use Rattle.heap_syntax.specs.DefinitionTrees.{Heap}
use Rattle.heap_syntax.specs.DefinitionGrammar.{terms, heap}
use Rattle.heap_syntax.proofs.writing.term_heaps.write_heap.Goals as goal

pub write_heap-requires : goal.write_heap-requires
write_heap-requires c = λ k. (
  (refl, tt),
  subst (λ (h : Heap). (heap (terms c.args.universal)).fits h)
      (sym (heap-same c.args.tree.now)) c.requires,
)

pub returns : goal.returns
returns c = subst (λ (h : Heap). OnOk c.write_heap.result (c.write_heap.new.writer
    ≡ write_all c.args.writer.now ((heap (terms c.args.universal)).words h))) (heap-same c.args.tree.now)
    c.write_heap.ensures
