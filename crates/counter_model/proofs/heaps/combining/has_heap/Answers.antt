use Rattle.std.proofs.Common.{arith}
use Rattle.counter_model.proofs.UnionsOf.{same_there}
use Rattle.counter_model.proofs.heaps.combining.has_heap.Goals as goal

pub returns-then-is_same-clause-found : goal.returns-then-is_same-clause-found
returns-then-is_same-clause-found c = λ h _ o.
    same_there c.args.greatest c.args.heaps.now c.loop-known.known-index c.known-item.result c.args.heap.now h
    (omega arith) c.known-item.is (c.is_same.ensures.0 c.if-is_same.true) o
