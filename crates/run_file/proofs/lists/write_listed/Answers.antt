use Rattle.std.proofs.Common.{◌≡◌, sym, ap, subst}
use Rattle.std.specs.Prelude.{map}
use Rattle.cyc_lex.specs.Writing.{write_all}
use Rattle.cyc_grammar.specs.Classes.{symbol}
use Rattle.cyc_grammar.proofs.WrittenTexts.{first-item, wrote-ended, on-ok}
use Rattle.heap_syntax.specs.Words.{comma}
use Rattle.heap_syntax.specs.Grammar.{listed}
use Rattle.run_file.proofs.lists.write_listed.Goals as goal

pub returns : goal.returns
unfolding listed
returns g c =
    let whole = ap (map g.I.Item.seen)
    (first-item c.args.trees.now c.first-item.result c.in-len1-up.len_at_least c.first-item.is) in
    on-ok c.symbol.result (λ e. subst (λ xs. c.symbol.new.self
    ≡ write_all c.args.writer.now ((listed (g.I.Item.some c.args.item.now) comma (symbol c.args.behind.now)
    (g.I.Item.syntax c.args.item.now)).words xs)) (sym whole)
    (wrote-ended _ _ _ _ _ _ _ c.in_ok-write_item-in-len1-up.ensures c.in_ok-write_more_listed-in-len1-up.ensures
    e)) c.symbol.ensures.ok
