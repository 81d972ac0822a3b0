use Rattle.std.proofs.Common.{arith}
use Rattle.model_check.specs.WideMasks.{number}
use Rattle.model_check.specs.Tables.{JoinsOne}
use Rattle.model_check.proofs.Loops.{loop_step, loop_end}
use Rattle.model_check.proofs.unions.combine.Goals as goal

pub loop-part-preserved : goal.loop-part-preserved
loop-part-preserved c = λ m. loop_step (λ p. JoinsOne (number p) c.args.others.now m)
    c.args.parts.now c.loop-part.part-index c.part-item.result (omega arith) c.part-item.is
    (c.in_ok-add_pairs.ensures m) (c.loop-part.invariant m)

pub returns : goal.returns
returns c = λ m. loop_end (λ p. JoinsOne (number p) c.args.others.now m) c.args.parts.now c.loop-part.part-index
    (omega arith) (c.loop-part.invariant m)
