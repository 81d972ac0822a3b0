use Rattle.general_models.proofs.Moves.{next_first}
use Rattle.general_models.proofs.runs.refuting.first_entries.Goals as goal

pub loop-i-preserved : goal.loop-i-preserved
loop-i-preserved c =
    next_first c.loop-i.i c.args.stack.now c.loop-i.values.items c.push.new.self.items c.get.result
    c.in_ok-push.ensures.items c.get.ensures c.loop-i.invariant
