use Rattle.std.proofs.Common.{◌<◌, length, arith}
use Rattle.general_models.proofs.RangedQuestions.{next_case_at, no_cases}
use Rattle.general_models.proofs.grounding.ground_cases.Goals as goal

pub loop-case-init : goal.loop-case-init
loop-case-init c = no_cases c.args.range.now c.args.cells.now c.args.places.now.keys c.args.head c.args.values.now
    c.args.questions.now.keys c.args.rules.now.items

pub loop-case-preserved : goal.loop-case-preserved
loop-case-preserved c =
    let h : c.loop-case.case-index < length c.args.cases.now = omega arith in
    next_case_at c.args.range.now c.args.cells.now c.args.places.now.keys c.args.head c.args.values.now
    c.args.questions.now.keys c.loop-case.questions.keys c.ground_ranged.new.questions.keys c.args.rules.now.items
    c.loop-case.rules.items c.ground_ranged.new.rules.items c.args.cases.now c.loop-case.case-index
    c.case-item.result h c.case-item.is c.loop-case.invariant c.in_ok-ground_ranged.ensures
