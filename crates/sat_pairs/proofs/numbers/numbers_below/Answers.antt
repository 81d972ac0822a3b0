use Rattle.sat_pairs.specs.Numbers.{count_from}
use Rattle.sat_pairs.proofs.Counting.{count_step}
use Rattle.sat_pairs.proofs.numbers.numbers_below.Goals as goal

pub loop-i-preserved : goal.loop-i-preserved
loop-i-preserved c =
    count_step c.loop-i.numbers.items c.push.new.self.items (count_from 0 c.args.n)
    c.loop-i.i c.args.n c.loop-i-test.true c.loop-i.invariant c.in_ok-push.ensures.items
