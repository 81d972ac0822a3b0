use Rattle.proof_picture.proofs.Turns.{one_arrow}
use Rattle.proof_picture.proofs.folds.boxes.copied_arrows.Goals as goal

pub loop-arrow-preserved : goal.loop-arrow-preserved
loop-arrow-preserved c =
    one_arrow c.loop-arrow.copy.items c.push.new.self.items c.args.arrows.now c.loop-arrow.arrow-index
    c.arrow-item.result c.in_ok-copied_arrow.field-0 c.loop-arrow-test.true c.arrow-item.is
    c.in_ok-push.ensures.items c.in_ok-copied_arrow.ensures c.loop-arrow.invariant
