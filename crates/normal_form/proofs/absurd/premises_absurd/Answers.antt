use Rattle.rule_table.specs.Table.{absurd_answer}
use Rattle.rule_table.proofs.Answers.{sound_answer_all}
use Rattle.rule_table.proofs.LeftRules.{absurd_is_sound}
use Rattle.normal_form.proofs.absurd.premises_absurd.Goals as goal

pub returns-clause-sound : goal.returns-clause-sound
returns-clause-sound c =
    sound_answer_all c.args.judgement.now c.absurd.result (absurd_answer c.args.judgement.now) c.absurd.ensures
    (λ ds lines. absurd_is_sound ds lines c.args.judgement.now)
