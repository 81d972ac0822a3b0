use Rattle.rule_table.specs.Table.{split_answer}
use Rattle.rule_table.proofs.Answers.{sound_answer_all}
use Rattle.rule_table.proofs.LeftRules.{split_is_sound}
use Rattle.normal_form.proofs.split.premises_split.Goals as goal

pub returns-clause-sound : goal.returns-clause-sound
returns-clause-sound c =
    sound_answer_all c.args.judgement.now c.split.result (split_answer c.args.most c.args.judgement.now c.args.t c.args.u)
    c.split.ensures (λ ds lines. split_is_sound ds lines c.args.most c.args.judgement.now c.args.t c.args.u)
