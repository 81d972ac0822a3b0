use Rattle.std.proofs.Common.{◌≡◌, sym, ap, subst}
use Rattle.std.specs.Prelude.{map}
use Rattle.cyc_lex.specs.Writing.{write_all}
use Rattle.cyc_grammar.proofs.WrittenTexts.{first-item, wrote-both, on-ok}
use Rattle.heap_syntax.specs.Words.{marked}
use Rattle.fo_syntax.specs.Lists.{list_of}
use Rattle.fo_syntax.proofs.problems.item.write_listed.Goals as goal

pub returns : goal.returns
returns g c =
    let whole = ap (map g.I.Item.seen)
    (first-item c.args.trees.now c.first-item.result c.in-len1-up.len_at_least c.first-item.is) in
    on-ok c.write_more_listed.result (λ e. subst (λ xs. c.write_more_listed.new.writer
    ≡ write_all c.args.writer.now ((list_of (marked c.args.between.now)
    (g.I.Item.syntax c.args.item.now)).words xs)) (sym whole)
    (wrote-both _ _ _ _ _ c.in_ok-write_item-in-len1-up.ensures e)) c.write_more_listed.ensures
