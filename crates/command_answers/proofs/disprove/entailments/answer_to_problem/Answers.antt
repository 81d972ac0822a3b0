use Rattle.std.proofs.Common.{sym, subst}
use Rattle.std.specs.Prelude.{IfOk}
use Rattle.heap_formula.specs.declared.judgements.Judgement.{Judgement}
use Rattle.model_file.specs.Versions.{version_for}
use Rattle.command_answers.specs.DisproveAnswers.{IsGoalAnswer}
use Rattle.command_answers.proofs.disprove.entailments.answer_to_problem.Goals as goal

pub returns-in-Entail-clause-said : goal.returns-in-Entail-clause-said
returns-in-Entail-clause-said c =
    subst (λ (g : Judgement). IfOk c.answer_to_entailment.result
    (λ a. IsGoalAnswer (version_for c.args.problem.now.version) c.args.cells c.args.problem.now.defs.list g a.status
    a.text.items)) (sym c.in-Entail.is)
    c.answer_to_entailment.ensures.said
