use Rattle.std.proofs.Common.{List, ℕ, ◌∙◌, ap, subst}
use Rattle.heap_formula.specs.Symbolic.{SymbolicHeap}
use Rattle.heap_formula.specs.Meaning.{cases_of}
use Rattle.general_models.specs.RangedGrounding.{GroundedOver}
use Rattle.general_models.proofs.RangedQuestions.{loop_question}
use Rattle.general_models.proofs.grounding.ground_all.Goals as goal

pub loop-head-preserved : goal.loop-head-preserved
loop-head-preserved c =
    let v = c.loop-head.invariant in
    let k1 = subst
    (λ (vs : List ℕ). GroundedOver c.args.range.now c.args.cells.now c.args.places.now.keys
    c.loop-head.questions.keys c.ground_cases.new.questions.keys c.loop-head.rules.items
    c.ground_cases.new.rules.items c.loop-head.head vs c.cases.result.now)
    c.values.ensures c.in_ok-ground_cases.ensures in
    let k2 = subst
    (λ (bs : List SymbolicHeap). GroundedOver c.args.range.now c.args.cells.now c.args.places.now.keys
    c.loop-head.questions.keys c.ground_cases.new.questions.keys c.loop-head.rules.items
    c.ground_cases.new.rules.items c.loop-head.head c.in-Some.question.values bs)
    (c.cases.ensures ∙ ap (cases_of c.args.defs.now.list) c.predicate.ensures) k1 in
    let r = loop_question c.args.range.now c.args.defs.now.list c.args.cells.now c.args.places.now.keys
    c.args.questions.now.keys c.loop-head.questions.keys c.ground_cases.new.questions.keys c.loop-head.rules.items
    c.ground_cases.new.rules.items c.loop-head.head c.in-Some.question (rw c.in-Some.is at c.in_ok-question.ensures)
    v.extends v.grounded k2 in
    record { extends = r.0; grounded = r.1; within = r.2 }
