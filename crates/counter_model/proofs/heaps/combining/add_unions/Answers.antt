use Rattle.std.proofs.Common.{arith}
use Rattle.counter_model.specs.Bounds.{Unites}
use Rattle.counter_model.proofs.Loops.{turn, done}
use Rattle.counter_model.proofs.heaps.combining.add_unions.Goals as goal

pub loop-rest-preserved : goal.loop-rest-preserved
loop-rest-preserved c = λ h o.
    turn (λ r. Unites c.args.greatest c.args.part.now r h) c.args.others.now c.loop-rest.rest-index c.rest-item.result
    (omega arith) c.rest-item.is (c.in_ok-add_union.ensures h) (c.loop-rest.invariant h o)

pub returns : goal.returns
returns c = λ h o.
    done (λ r. Unites c.args.greatest c.args.part.now r h) c.args.others.now c.loop-rest.rest-index (omega arith)
    (c.loop-rest.invariant h o)
