use Rattle.model_check.proofs.CaseLists.{constructive_cases}
use Rattle.model_check.proofs.grounding.ground_question.Goals as goal

pub ground_cases-requires-clause-constructive : goal.ground_cases-requires-clause-constructive
ground_cases-requires-clause-constructive c = rw (c.cases.ensures, c.predicate.ensures)
    (constructive_cases c.args.defs.now.list c.args.question.now.predicate c.requires.constructive)
