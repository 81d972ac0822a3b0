use Rattle.std.proofs.Common.{◌≡◌, List, sym, subst, refl}
use Rattle.std.specs.Prelude.{OnOk}
use Rattle.cyc_lex.specs.Writing.{write_all}
use Rattle.heap_syntax.specs.Words.{marked}
use Rattle.heap_syntax.proofs.SeenTrees.{heaps-same}
use Rattle.heap_syntax.specs.DefinitionTrees.{Heap}
use Rattle.heap_syntax.specs.DefinitionGrammar.{heaps}
use Rattle.heap_syntax.proofs.writing.term_heaps.write_heaps.Goals as goal

pub write_heaps-requires : goal.write_heaps-requires
write_heaps-requires c = λ k. (
  (refl, tt),
  subst (λ (hs : List Heap).
      (heaps (marked c.args.between.now) (marked c.args.behind.now)).fits hs) (sym (heaps-same c.args.trees.now))
      c.requires,
)

pub returns : goal.returns
returns c = subst (λ (hs : List Heap). OnOk c.write_heaps.result
    (c.write_heaps.new.writer ≡ write_all c.args.writer.now ((heaps (marked c.args.between.now)
    (marked c.args.behind.now)).words hs))) (heaps-same c.args.trees.now) c.write_heaps.ensures
