use Rattle.std.proofs.Common.{◌<◌, length, arith}
use Rattle.general_models.proofs.RangedCases.{next_stack_at, no_stack}
use Rattle.general_models.proofs.grounding.ground_stacks.Goals as goal

pub loop-stack-init : goal.loop-stack-init
loop-stack-init c = no_stack c.args.cells.now c.args.places.now.keys c.args.head c.args.case.now
    c.args.questions.now.keys c.args.rules.now.items

pub loop-stack-preserved : goal.loop-stack-preserved
loop-stack-preserved c =
    let h : c.loop-stack.stack-index < length c.args.stacks.now = omega arith in
    next_stack_at c.args.cells.now c.args.places.now.keys c.args.head c.args.case.now c.args.questions.now.keys
    c.loop-stack.questions.keys c.ground_case.new.questions.keys c.args.rules.now.items c.loop-stack.rules.items
    c.ground_case.new.rules.items c.args.stacks.now c.loop-stack.stack-index c.stack-item.result
    c.as_slice.result.now h c.stack-item.is c.as_slice.ensures c.loop-stack.invariant c.in_ok-ground_case.ensures
