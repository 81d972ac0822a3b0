use Rattle.std.specs.Prelude.{slice_index}
use Rattle.general_models.proofs.RangeSteps.{next_front}
use Rattle.general_models.proofs.stacks.front.Goals as goal

pub loop-i-preserved : goal.loop-i-preserved
loop-i-preserved c =
    next_front (slice_index c.args.values.now)
    c.loop-i.i c.loop-i.first.items c.push.new.self.items c.value_at.result c.in_ok-push.ensures.items
    c.value_at.ensures c.loop-i.invariant
