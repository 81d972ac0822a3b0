use Rattle.std.proofs.Common.{◌<◌, length, refl, arith}
use Rattle.general_models.proofs.RangeSteps.{next_choice}
use Rattle.general_models.proofs.opening.opened.Goals as goal

pub loop-i-preserved : goal.loop-i-preserved
loop-i-preserved c =
    let h : c.loop-i.i < length c.args.chosen.now = omega arith in
    next_choice c.args.heap.now c.loop-i.copy c.push_choice.new.heap c.args.first c.loop-i.i _ c.args.chosen.now h refl
    c.loop-i.invariant c.in_ok-push_choice.ensures
