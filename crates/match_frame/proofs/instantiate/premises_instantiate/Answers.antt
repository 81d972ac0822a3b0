use Rattle.rule_table.specs.Table.{instantiate_answer}
use Rattle.rule_table.proofs.Answers.{sound_answer_all}
use Rattle.rule_table.proofs.RightRules.{instantiate_is_sound}
use Rattle.match_frame.proofs.instantiate.premises_instantiate.Goals as goal

pub returns-clause-sound : goal.returns-clause-sound
returns-clause-sound c =
    sound_answer_all c.args.judgement.now c.instantiate.result
    (instantiate_answer c.args.judgement.now c.args.v c.args.t) c.instantiate.ensures
    (λ ds lines. instantiate_is_sound ds lines c.args.judgement.now c.args.v c.args.t)
