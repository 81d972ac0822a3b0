use Rattle.std.proofs.Common.{◌≡◌, List, sym, ap, subst}
use Rattle.std.specs.Prelude.{map}
use Rattle.cyc_lex.specs.Writing.{write_all}
use Rattle.cyc_grammar.proofs.WrittenTexts.{first-item, wrote-ended, on-ok}
use Rattle.heap_syntax.specs.Trees.{Heap, heap_of}
use Rattle.heap_syntax.specs.Grammar.{listed, spatial, heap, heaps}
use Rattle.heap_syntax.specs.Words.{marked}
use Rattle.heap_syntax.proofs.writing.heaps.write_heaps.Goals as goal

pub returns : goal.returns
unfolding listed
returns g c =
    let whole = ap (map (heap_of g.F.TermForm.seen))
    (first-item c.args.trees.now c.first-item.result c.in-len1-up.len_at_least c.first-item.is) in
    on-ok c.write.result (λ e. subst (λ (xs : List (Heap _)). c.write.new.writer
    ≡ write_all c.args.writer.now ((heaps (marked c.args.between.now) (marked c.args.behind.now)
    (heap (g.F.TermForm.terms c.args.form.now) (spatial (g.F.TermForm.terms c.args.form.now)))).words xs))
    (sym whole)
    (wrote-ended _ _ _ _ _ _ _ c.in_ok-write_heap-in-len1-up.ensures c.in_ok-write_more_heaps-in-len1-up.ensures e))
    c.write.ensures
