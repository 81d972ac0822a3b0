use Rattle.std.proofs.Common.{◌≡◌, List, sym, subst}
use Rattle.std.specs.Prelude.{OnOk}
use Rattle.cyc_lex.specs.Word.{Word}
use Rattle.cyc_lex.specs.Writing.{write_all}
use Rattle.heap_syntax.proofs.WrittenTerms.{terms-words}
use Rattle.heap_syntax.proofs.definitions.form.NumberedFormWrittenForm.write_term.Goals as goal

pub returns : goal.returns
returns c = subst (λ (ws : List Word). OnOk c.write_any_term.result
    (c.write_any_term.new.writer ≡ write_all c.args.writer.now ws))
    (sym (terms-words c.args.self.now.universal c.args.tree c.requires)) c.write_any_term.ensures
