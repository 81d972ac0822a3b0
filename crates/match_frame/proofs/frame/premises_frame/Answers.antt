use Rattle.rule_table.specs.Table.{frame_answer}
use Rattle.rule_table.proofs.Answers.{sound_answer_all}
use Rattle.rule_table.proofs.RightRules.{frame_is_sound}
use Rattle.match_frame.proofs.frame.premises_frame.Goals as goal

pub returns-clause-sound : goal.returns-clause-sound
returns-clause-sound c =
    sound_answer_all c.args.judgement.now c.frame.result (frame_answer c.args.judgement.now c.args.i c.args.k)
    c.frame.ensures (λ ds lines. frame_is_sound ds lines c.args.judgement.now c.args.i c.args.k)
