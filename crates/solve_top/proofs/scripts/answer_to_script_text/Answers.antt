use Rattle.solve_top.proofs.ScriptLaws.{answered_with}
use Rattle.solve_top.proofs.scripts.answer_to_script_text.Goals as goal

pub returns-in-Ok-clause-said : goal.returns-in-Ok-clause-said
returns-in-Ok-clause-said c input asked =
    answered_with input c.args.asked.now.asks.question c.in-Ok.problem c.args.asked.now.asks.defs.list
    c.args.asked.now.asks.goal c.answer_to_asked.result (c.has_goal.ensures.definitions c.if-has_goal.true)
    (c.has_goal.ensures.goal c.if-has_goal.true) asked (c.answer_to_asked.ensures.said input)
