use Rattle.std.proofs.Common.{List, subst}
use Rattle.std.specs.Prelude.{Ok, Err, Vec}
use Rattle.std.specs.declared.alloc.Global.{Global}
use Rattle.std.proofs.lemmas.Result.{IfOk-weaker}
use Rattle.logics.specs.declared.node.ProofNode.{ProofNode}
use Rattle.rule_logics.specs.declared.reasons.Reason.{Reason}
use Rattle.rule_logics.specs.Answers.{IsProofAnswer}
use Rattle.rule_logics.specs.Grammar.{read_proof}
use Rattle.rule_logics.proofs.Answered.{three_ok, fault_read}
use Rattle.rule_logics.proofs.texts.answers.CheckerTool.answer.Goals as goal

pub returns-in-Ok-clause-answered : goal.returns-in-Ok-clause-answered
returns-in-Ok-clause-answered g c =
    let l = c.args.self.now.logic in
    IfOk-weaker c.answer_to_proof.result _ _ (λ a p. (
      Ok c.in-Ok.nodes.items,
      c.in-Ok.ensures,
      subst (λ (ns : List (ProofNode _ (Reason _))). IsProofAnswer (g.L.RuleLogic.rules l)
          (g.X.RuleText.text c.args.self.now.texts) (g.L.RuleLogic.holds l) ns a.status a.text.items)
          c.deref.ensures.value p,
    )) c.answer_to_proof.ensures.answered

pub returns-in-Err-clause-answered : goal.returns-in-Err-clause-answered
returns-in-Err-clause-answered g c =
    let l = c.args.self.now.logic in
    three_ok c.answer_to_fault.result _ _ _ _ (λ a known status text. (
      Err c.in-Err.fault,
      fault_read {X = Vec (ProofNode _ (Reason _)) Global} (λ v. v.items)
          (λ (ns : List (ProofNode _ (Reason _))). ns) (read_proof (g.X.RuleText.text c.args.self.now.texts))
          c.args.input.now c.in-Err.fault c.in-Err.ensures,
      (status, text, known),
    ))
    c.answer_to_fault.ensures.known c.answer_to_fault.ensures.status c.answer_to_fault.ensures.text
