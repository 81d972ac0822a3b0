use Rattle.std.proofs.Common.{arith}
use Rattle.heap_formula.specs.Words.{OneOf}
use Rattle.counter_model.specs.Bounds.{Unites}
use Rattle.counter_model.proofs.Loops.{turn, done}
use Rattle.counter_model.proofs.UnionsOf.{parts_unite}
use Rattle.counter_model.proofs.heaps.combining.combine.Goals as goal

pub loop-part-preserved : goal.loop-part-preserved
loop-part-preserved c = λ h o.
    turn (λ p. OneOf (λ r. Unites c.args.greatest p r h) c.args.others.now)
    c.args.parts.now c.loop-part.part-index c.part-item.result (omega arith) c.part-item.is
    (c.in_ok-add_unions.ensures h) (c.loop-part.invariant h o)

pub returns : goal.returns
returns c = λ h s.
    done (λ p. OneOf (λ r. Unites c.args.greatest p r h) c.args.others.now) c.args.parts.now c.loop-part.part-index
    (omega arith) (c.loop-part.invariant h (parts_unite c.args.greatest c.args.parts.now c.args.others.now h s))
