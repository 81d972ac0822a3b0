use Rattle.rule_table.specs.Table.{distinct_answer}
use Rattle.rule_table.proofs.Answers.{sound_answer_all}
use Rattle.rule_table.proofs.LeftRules.{distinct_is_sound}
use Rattle.normal_form.proofs.distinct.premises_distinct.Goals as goal

pub returns-clause-sound : goal.returns-clause-sound
returns-clause-sound c =
    sound_answer_all c.args.judgement.now c.distinct.result
    (distinct_answer c.args.most c.args.judgement.now c.args.i c.args.k)
    c.distinct.ensures (λ ds lines. distinct_is_sound ds lines c.args.most c.args.judgement.now c.args.i c.args.k)
