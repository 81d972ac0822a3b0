use Rattle.std.proofs.Common.{◌≡◌, List, sym, subst}
use Rattle.std.specs.Prelude.{OnOk}
use Rattle.cyc_lex.specs.Word.{Word}
use Rattle.cyc_lex.specs.Writing.{write_all}
use Rattle.heap_syntax.proofs.WrittenTerms.{uterm-words}
use Rattle.heap_syntax.proofs.definitions.form.write_universal_term.Goals as goal

pub returns : goal.returns
returns c = subst (λ (ws : List Word). OnOk c.write_any_term.result
    (c.write_any_term.new.writer ≡ write_all c.args.writer.now ws)) (sym (uterm-words c.args.tree c.requires))
    c.write_any_term.ensures
