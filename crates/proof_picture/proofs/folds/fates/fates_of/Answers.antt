use Rattle.std.proofs.Common.{◌≡◌, ◌+◌, ◌-◌, suc, length, arith}
use Rattle.proof_picture.proofs.Turns.{one_fate}
use Rattle.proof_picture.proofs.folds.fates.fates_of.Goals as goal

pub loop-done-preserved : goal.loop-done-preserved
loop-done-preserved c =
    let at : length c.args.boxes.now - (c.loop-done.done + 1) + suc c.loop-done.done
    ≡ length c.args.boxes.now = omega arith in
    one_fate c.args.entries.now c.place_of_fault-place.result c.args.boxes.now c.loop-done.done
    (length c.args.boxes.now - (c.loop-done.done + 1))
    c.index-boxes-v.result c.loop-done.behind.items c.push_front.new.self.items c.fate_of-fate.result
    at c.index-boxes-v.is c.in_ok-push_front.ensures.items c.fate_of-fate.ensures c.loop-done.invariant
