use Rattle.rule_table.specs.Table.{weaken_answer}
use Rattle.rule_table.proofs.Answers.{sound_answer_all}
use Rattle.rule_table.proofs.LeftRules.{weaken_is_sound}
use Rattle.normal_form.proofs.weaken.premises_weaken.Goals as goal

pub returns-clause-sound : goal.returns-clause-sound
returns-clause-sound c =
    sound_answer_all c.args.judgement.now c.weaken.result (weaken_answer c.args.judgement.now c.args.k) c.weaken.ensures
    (λ ds lines. weaken_is_sound ds lines c.args.judgement.now c.args.k)
