use Rattle.std.proofs.Common.{arith}
use Rattle.model_check.proofs.PlaceLists.{insert_step, insert_end}
use Rattle.model_check.proofs.satisfaction.places_of.Goals as goal

pub loop-address-preserved : goal.loop-address-preserved
loop-address-preserved c = insert_step c.args.addresses.now c.loop-address.address-index c.loop-address.places.keys
    c.insert.new.self.keys (omega arith) c.in_ok-insert.ensures.keys c.loop-address.invariant

pub returns : goal.returns
returns c = insert_end c.args.addresses.now c.loop-address.address-index c.loop-address.places.keys (omega arith)
    c.loop-address.invariant
