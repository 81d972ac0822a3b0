use Rattle.std.proofs.Common.{◌≡◌, ◌∙◌, ℕ, List, sym, ap, subst}
use Rattle.cyc_lex.specs.declared.token.Kind.TheVariants.{Name}
use Rattle.proof_syntax.specs.ReasonWords.{reason_text}
use Rattle.cyc_lex.specs.Word.{Word}
use Rattle.cyc_lex.specs.Writing.{write, write_all}
use Rattle.cyc_grammar.proofs.WrittenTexts.{wrote-behind, on-ok}
use Rattle.proof_syntax.specs.Trees.{reason_of}
use Rattle.proof_syntax.proofs.WritingReasonParts.{reason-words, reason-fits}
use Rattle.proof_syntax.proofs.writing.reasons.write_reason.Goals as goal

pub write_parts-requires : goal.write_parts-requires
write_parts-requires c = reason-fits (reason_of c.args.tree.now) c.requires

pub returns : goal.returns
returns c =
    let named = c.in_ok-name.ensures.ok ∙ ap (λ (w : Word). write c.args.writer.now w)
    (ap (λ (s : List ℕ). record { kind = Name; text = s })
    (c.text.ensures ∙ ap reason_text c.word_of_reason.ensures)) in
    on-ok c.write_parts.result (λ e. subst (λ (ws : List Word). c.write_parts.new.writer
    ≡ write_all c.args.writer.now ws) (sym (reason-words (reason_of c.args.tree.now)))
    (wrote-behind _ _ _ _ _ named e)) c.write_parts.ensures
