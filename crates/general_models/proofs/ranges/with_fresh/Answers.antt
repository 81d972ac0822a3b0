use Rattle.general_models.proofs.RangeSteps.{next_fresh}
use Rattle.general_models.proofs.ranges.with_fresh.Goals as goal

pub loop-i-preserved : goal.loop-i-preserved
loop-i-preserved c =
    next_fresh c.loop-i.range.items c.push.new.self.items c.args.numbers.now c.args.base c.loop-i.i
    c.in_ok-push.ensures.items c.loop-i.invariant
