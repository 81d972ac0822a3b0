use Rattle.rule_table.specs.Table.{unfold_right_answer}
use Rattle.rule_table.proofs.Answers.{sound_answer_of}
use Rattle.rule_table.proofs.RightRules.{unfold_right_is_sound}
use Rattle.unfold_rule.proofs.unfold_right.premises_unfold_right.Goals as goal

pub returns-clause-sound : goal.returns-clause-sound
returns-clause-sound c =
    sound_answer_of c.args.defs.now.list c.args.judgement.now c.unfold_right.result
    (unfold_right_answer c.args.defs.now.most c.args.defs.now.list c.args.judgement.now c.args.k c.args.c)
    c.unfold_right.ensures
    (λ lines.
    unfold_right_is_sound c.args.defs.now.list lines c.args.defs.now.most c.args.judgement.now c.args.k c.args.c)
