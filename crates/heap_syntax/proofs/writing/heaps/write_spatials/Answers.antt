use Rattle.std.proofs.Common.{◌≡◌, List, sym, ap, subst}
use Rattle.std.specs.Prelude.{map}
use Rattle.cyc_lex.specs.Writing.{write_all}
use Rattle.cyc_grammar.proofs.WrittenTexts.{first-item, wrote-both, on-ok}
use Rattle.heap_syntax.specs.Trees.{Spatial, spatial_of}
use Rattle.heap_syntax.specs.Grammar.{spatial, spatials, spatials1}
use Rattle.heap_syntax.proofs.writing.heaps.write_spatials.Goals as goal

pub returns-in_ok-write_spatial-in-len1-up : goal.returns-in_ok-write_spatial-in-len1-up
unfolding spatials spatials1
returns-in_ok-write_spatial-in-len1-up g c =
    let whole = ap (map (spatial_of g.F.TermForm.seen))
    (first-item c.args.trees.now c.first-item.result c.in-len1-up.len_at_least c.first-item.is) in
    on-ok c.write_more_spatials.result (λ e. subst (λ (xs : List (Spatial _)). c.write_more_spatials.new.writer
    ≡ write_all c.args.writer.now ((spatials (g.F.TermForm.terms c.args.form.now)
    (spatial (g.F.TermForm.terms c.args.form.now))).words xs)) (sym whole)
    (wrote-both _ _ _ _ _ c.in_ok-write_spatial-in-len1-up.ensures e)) c.write_more_spatials.ensures
