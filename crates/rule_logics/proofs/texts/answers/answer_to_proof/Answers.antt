use Rattle.std.proofs.Common.{◌<◌, length, arith}
use Rattle.std.proofs.lemmas.Result.{IfOk-weaker}
use Rattle.rule_logics.specs.Answers.{HasNone, HasVerdict}
use Rattle.rule_logics.proofs.Answered.{both_ok}
use Rattle.rule_logics.proofs.texts.answers.answer_to_proof.Goals as goal

pub returns-then-nodes-eq0-clause-answered : goal.returns-then-nodes-eq0-clause-answered
returns-then-nodes-eq0-clause-answered g c = IfOk-weaker c.fixed_answer.result _ _
    (λ a p. HasNone c.if-nodes-eq0.true p.0 p.1) c.fixed_answer.ensures

pub returns-clause-answered : goal.returns-clause-answered
returns-clause-answered g c =
    let some : 0 < length c.args.nodes.now = omega arith in
    both_ok c.answer_to_verdict.result _ _ _ (λ a status text.
    HasVerdict some c.in_ok-verdict.verdict c.in_ok-verdict.ensures status text)
    c.answer_to_verdict.ensures.status c.answer_to_verdict.ensures.text
