use Rattle.heap_formula.specs.Closedness.{IsUniversalHeap}
use Rattle.heap_formula.specs.Judgements.{antecedent}
use Rattle.rule_table.specs.Table.{rewrite_answer}
use Rattle.rule_table.proofs.Answers.{sound_answer_any}
use Rattle.rule_table.proofs.LeftRules.{rewrite_is_sound}
use Rattle.normal_form.proofs.rewrite.premises_rewrite.Goals as goal

pub returns-clause-sound : goal.returns-clause-sound
returns-clause-sound c =
    sound_answer_any c.args.judgement.now c.rewrite.result
    (rewrite_answer c.args.p c.args.judgement.now c.args.k c.args.side)
    (λ lines. IsUniversalHeap (antecedent c.args.judgement.now)) c.rewrite.ensures
    (λ ds lines u. rewrite_is_sound ds lines c.args.p c.args.judgement.now c.args.k c.args.side u)
