use Rattle.std.proofs.Common.{refl}
use Rattle.derivations.specs.declared.found.searching.Proved.TheVariants.{Found, NotFound, TooManyDerivations, TooManyStates}
use Rattle.rule_logics.proofs.Answered.{all_said, said}
use Rattle.rule_logics.proofs.texts.answers.answer_to_problem.Goals as goal

pub returns-in-Found-clause-answered : goal.returns-in-Found-clause-answered
returns-in-Found-clause-answered g c =
    let l = c.args.logic.now in
    all_said (g.L.RuleLogic.rules l) (g.X.RuleText.text c.args.texts.now) (g.L.RuleLogic.holds l) c.args.depth
    c.args.goal.now _ (Found c.in-Found.nodes) c.in-Found.is c.in_ok-nodes.ensures.outcome c.answer_with.result
    c.answer_with.ensures.answered

pub returns-in_ok-text-in-NotFound-clause-answered : goal.returns-in_ok-text-in-NotFound-clause-answered
returns-in_ok-text-in-NotFound-clause-answered g c =
    let l = c.args.logic.now in
    said (g.L.RuleLogic.rules l) (g.X.RuleText.text c.args.texts.now) (g.L.RuleLogic.holds l) c.args.depth
    c.args.goal.now _ NotFound c.in-NotFound.is c.in_ok-nodes.ensures.outcome _ _
    (refl, c.in_ok-text-in-NotFound.ensures)

pub returns-in-TooManyDerivations-clause-answered : goal.returns-in-TooManyDerivations-clause-answered
returns-in-TooManyDerivations-clause-answered g c =
    let l = c.args.logic.now in
    all_said (g.L.RuleLogic.rules l) (g.X.RuleText.text c.args.texts.now) (g.L.RuleLogic.holds l) c.args.depth
    c.args.goal.now _ TooManyDerivations c.in-TooManyDerivations.is c.in_ok-nodes.ensures.outcome c.fixed_answer.result
    c.fixed_answer.ensures

pub returns-in-TooManyStates-clause-answered : goal.returns-in-TooManyStates-clause-answered
returns-in-TooManyStates-clause-answered g c =
    let l = c.args.logic.now in
    all_said (g.L.RuleLogic.rules l) (g.X.RuleText.text c.args.texts.now) (g.L.RuleLogic.holds l) c.args.depth
    c.args.goal.now _ TooManyStates c.in-TooManyStates.is c.in_ok-nodes.ensures.outcome
    c.fixed_answer-in-TooManyStates.result c.fixed_answer-in-TooManyStates.ensures
