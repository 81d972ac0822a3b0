use Rattle.std.proofs.Common.{arith}
use Rattle.rule_logics.proofs.Loops.{next_pair, no_pair}
use Rattle.rule_logics.proofs.moved.push_moved.Goals as goal

pub loop-place-preserved : goal.loop-place-preserved
loop-place-preserved c =
    next_pair c.args.old c.args.new c.loop-place.place c.loop-place.pairs.items c.push.new.self.items _ (omega arith)
    c.in_ok-push.ensures.items c.loop-place.invariant

pub returns : goal.returns
returns c = no_pair c.args.old c.args.new c.loop-place.place c.loop-place.pairs.items _ (omega arith)
    c.loop-place.invariant
