use Rattle.std.proofs.Common.{List, ℕ, subst}
use Rattle.rule_table.specs.Answered.{IsAnswer}
use Rattle.rule_table.specs.Soundness.{HasVariables}
use Rattle.rule_table.specs.Table.{cut_answer}
use Rattle.rule_table.proofs.Answers.{sound_answer_any}
use Rattle.rule_table.proofs.LeftRules.{cut_is_sound}
use Rattle.unfold_rule.proofs.cut.premises_cut.Goals as goal

pub returns-clause-sound : goal.returns-clause-sound
returns-clause-sound c =
    sound_answer_any c.args.judgement.now c.cut.result
    (cut_answer c.args.most c.args.p c.args.judgement.now c.args.positions.now c.args.formula.now)
    (λ lines. HasVariables lines c.args.p c.args.judgement.now)
    (subst (λ (places : List ℕ). IsAnswer c.cut.result
    (cut_answer c.args.most c.args.p c.args.judgement.now places c.args.formula.now))
    c.as_slice.ensures c.cut.ensures)
    (λ ds lines v.
    cut_is_sound ds lines c.args.most c.args.p c.args.judgement.now c.args.positions.now c.args.formula.now v)
