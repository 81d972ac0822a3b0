use Rattle.std.proofs.Common.{◌<◌, length, arith}
use Rattle.general_models.proofs.RangeSteps.{none_taken, next_taken}
use Rattle.general_models.proofs.ranges.take_all.Goals as goal

pub loop-value-init : goal.loop-value-init
loop-value-init c = none_taken c.args.numbers.now.keys

pub loop-value-preserved : goal.loop-value-preserved
loop-value-preserved c =
    let h : c.loop-value.value-index < length c.args.values.now = omega arith in
    next_taken c.args.numbers.now.keys c.loop-value.numbers.keys c.take.new.numbers.keys c.args.values.now
    c.loop-value.value-index h c.loop-value.invariant c.in_ok-take.ensures
