use Rattle.rule_table.specs.Soundness.{HasVariables}
use Rattle.rule_table.specs.Table.{unfold_answer}
use Rattle.rule_table.proofs.Answers.{sound_answer_for}
use Rattle.rule_table.proofs.LeftRules.{unfold_is_sound}
use Rattle.unfold_rule.proofs.unfold.premises_unfold.Goals as goal

pub returns-clause-sound : goal.returns-clause-sound
returns-clause-sound c =
    sound_answer_for c.args.defs.now.list c.args.judgement.now c.unfold.result
    (unfold_answer c.args.defs.now.most c.args.defs.now.list c.args.p c.args.judgement.now c.args.k)
    (λ lines. HasVariables lines c.args.p c.args.judgement.now) c.unfold.ensures
    (λ lines v.
    unfold_is_sound c.args.defs.now.list lines c.args.defs.now.most c.args.p c.args.judgement.now c.args.k v)
