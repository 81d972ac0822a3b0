use Rattle.rule_table.specs.Table.{pure_right_answer}
use Rattle.rule_table.proofs.Answers.{sound_answer_all}
use Rattle.rule_table.proofs.RightRules.{pure_right_is_sound}
use Rattle.match_frame.proofs.pure_right.premises_pure_right.Goals as goal

pub returns-clause-sound : goal.returns-clause-sound
returns-clause-sound c =
    sound_answer_all c.args.judgement.now c.pure_right.result (pure_right_answer c.args.judgement.now c.args.k)
    c.pure_right.ensures (λ ds lines. pure_right_is_sound ds lines c.args.judgement.now c.args.k)
