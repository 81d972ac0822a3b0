use Rattle.std.proofs.Common.{arith, ◌∙◌}
use Rattle.counter_model.proofs.OrderLaws.{same_so_far}
use Rattle.counter_model.proofs.orders.compare_heaps.Goals as goal

pub loop-address-preserved : goal.loop-address-preserved
loop-address-preserved c =
    c.loop-address.invariant ∙ same_so_far c.args.greatest c.args.x.now c.args.y.now c.loop-address.address
    (omega arith) c.in-Equal.ensures
