use Rattle.std.proofs.Common.{◌≡◌, List, sym, ap, subst}
use Rattle.std.specs.Prelude.{map}
use Rattle.cyc_lex.specs.Writing.{write_all}
use Rattle.cyc_grammar.proofs.WrittenTexts.{first-item, wrote-ended, on-ok}
use Rattle.heap_syntax.specs.declared.tree.PureTree.{PureTree}
use Rattle.heap_syntax.specs.Trees.{pure_of}
use Rattle.heap_syntax.specs.Grammar.{pures, pures1, listed}
use Rattle.heap_syntax.proofs.writing.atoms.write_pures.Goals as goal

pub returns-in_ok-write_more_pures-in-len1-up : goal.returns-in_ok-write_more_pures-in-len1-up
unfolding pures pures1 listed
returns-in_ok-write_more_pures-in-len1-up g c =
    let whole = ap (map (pure_of g.F.TermForm.seen))
    (first-item c.args.trees.now c.first-item.result c.in-len1-up.len_at_least c.first-item.is) in
    on-ok c.symbol-in-len1-up.result (λ e. subst (λ (xs : List (PureTree _)). c.symbol-in-len1-up.new.self
    ≡ write_all c.args.writer.now ((pures (g.F.TermForm.terms c.args.form.now)).words xs)) (sym whole)
    (wrote-ended _ _ _ _ _ _ _ c.in_ok-write_pure-in-len1-up.ensures c.in_ok-write_more_pures-in-len1-up.ensures e))
    c.symbol-in-len1-up.ensures.ok
