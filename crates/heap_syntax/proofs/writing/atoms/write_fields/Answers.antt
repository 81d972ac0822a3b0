use Rattle.std.proofs.Common.{◌≡◌, List, sym, ap, subst}
use Rattle.std.specs.Prelude.{map}
use Rattle.cyc_lex.specs.Writing.{write_all}
use Rattle.cyc_grammar.proofs.WrittenTexts.{first-item, wrote-ended, on-ok}
use Rattle.heap_syntax.specs.Grammar.{fields, listed}
use Rattle.heap_syntax.proofs.writing.atoms.write_fields.Goals as goal

pub returns : goal.returns
unfolding fields listed
returns g c =
    let whole = ap (map g.F.TermForm.seen)
    (first-item c.args.trees.now c.first-item.result c.in-len1-up.len_at_least c.first-item.is) in
    on-ok c.symbol.result (λ e. subst (λ (xs : List _). c.symbol.new.self
    ≡ write_all c.args.writer.now ((fields (g.F.TermForm.terms c.args.form.now)).words xs)) (sym whole)
    (wrote-ended _ _ _ _ _ _ _ c.in_ok-write_term-in-len1-up.ensures c.in_ok-write_more_terms-in-len1-up.ensures e))
    c.symbol.ensures.ok
