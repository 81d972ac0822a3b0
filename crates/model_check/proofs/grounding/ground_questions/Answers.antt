use Rattle.model_check.proofs.QuestionLists.{loop_question}
use Rattle.model_check.proofs.grounding.ground_questions.Goals as goal

pub loop-head-preserved : goal.loop-head-preserved
loop-head-preserved c =
    let v = c.loop-head.invariant in
    let r = loop_question c.args.defs.now.list c.args.cells.now c.args.places.now.keys c.args.questions.now.keys
    c.loop-head.questions.keys c.ground_question.new.questions.keys c.loop-head.rules.items
    c.ground_question.new.rules.items c.loop-head.head c.in-Some.question
    (rw c.in-Some.is at c.in_ok-question.ensures) v.extends v.grounded c.in_ok-ground_question.ensures in
    record { extends = r.0; grounded = r.1; within = r.2 }
