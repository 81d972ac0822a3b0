use Rattle.std.proofs.Common.{sym, subst}
use Rattle.std.specs.Prelude.{IfOk}
use Rattle.heap_formula.specs.declared.proof_rules.Reason.{Reason}
use Rattle.heap_formula.specs.Judgements.{IsLocallySound}
use Rattle.rule_table.specs.Judgements.{IsReadable}
use Rattle.rule_book.proofs.reasons.premises_by_reason.Goals as goal
use Rattle.std.proofs.lemmas.Result.{IfOk-weaker}

pub returns-in-Step-clause-sound : goal.returns-in-Step-clause-sound
returns-in-Step-clause-sound c =
    subst (λ (r : Reason). IfOk c.premises.result (λ v. IsReadable c.args.judgement.now r
    → IsLocallySound c.args.defs.now.list c.args.program.now c.args.judgement.now v.items)) (sym c.in-Step.is)
    c.premises.ensures.sound

pub returns-in-Some-clause-sound : goal.returns-in-Some-clause-sound
returns-in-Some-clause-sound c =
    subst (λ (r : Reason). IfOk c.premises_by_link.result
    (λ v. IsReadable c.args.judgement.now r
    → IsLocallySound c.args.defs.now.list c.args.program.now c.args.judgement.now v.items)) (sym c.in-Back.is)
    (IfOk-weaker c.premises_by_link.result _ _ (λ v sound. sound c.args.defs.now.list)
    c.premises_by_link.ensures.sound)
