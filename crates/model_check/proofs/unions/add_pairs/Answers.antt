use Rattle.std.proofs.Common.{arith}
use Rattle.model_check.specs.WideMasks.{number}
use Rattle.model_check.specs.Ground.{Apart}
use Rattle.model_check.proofs.Loops.{loop_step, loop_end}
use Rattle.model_check.proofs.unions.add_pairs.Goals as goal

pub loop-rest-preserved : goal.loop-rest-preserved
loop-rest-preserved c = λ m. loop_step (λ r. Apart (number c.args.part.now) (number r) m)
    c.args.others.now c.loop-rest.rest-index c.rest-item.result (omega arith) c.rest-item.is
    (c.in_ok-add_pair.ensures m) (c.loop-rest.invariant m)

pub returns : goal.returns
returns c = λ m. loop_end (λ r. Apart (number c.args.part.now) (number r) m) c.args.others.now c.loop-rest.rest-index
    (omega arith) (c.loop-rest.invariant m)
