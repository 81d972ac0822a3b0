use Rattle.general_models.proofs.RangeSteps.{next_values}
use Rattle.general_models.proofs.stacks.with_values.Goals as goal

pub loop-i-preserved : goal.loop-i-preserved
loop-i-preserved c =
    next_values c.args.range.now c.args.stack c.loop-i._i c.loop-i.stacks.items c.deref.result.now
    c.in_ok-longer.longer.items c.deref.ensures.value c.in_ok-longer.ensures c.loop-i.invariant
