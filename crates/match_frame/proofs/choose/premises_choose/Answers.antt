use Rattle.rule_table.specs.Table.{choose_answer}
use Rattle.rule_table.proofs.Answers.{sound_answer_all}
use Rattle.rule_table.proofs.RightRules.{choose_is_sound}
use Rattle.match_frame.proofs.choose.premises_choose.Goals as goal

pub returns-clause-sound : goal.returns-clause-sound
returns-clause-sound c =
    sound_answer_all c.args.judgement.now c.choose.result (choose_answer c.args.judgement.now c.args.k) c.choose.ensures
    (λ ds lines. choose_is_sound ds lines c.args.judgement.now c.args.k)
