use Rattle.rule_table.specs.Table.{done_answer}
use Rattle.rule_table.proofs.Answers.{sound_answer_all}
use Rattle.rule_table.proofs.RightRules.{done_is_sound}
use Rattle.match_frame.proofs.done.premises_done.Goals as goal

pub returns-clause-sound : goal.returns-clause-sound
returns-clause-sound c =
    sound_answer_all c.args.judgement.now c.done.result (done_answer c.args.judgement.now) c.done.ensures
    (λ ds lines. done_is_sound ds lines c.args.judgement.now)
