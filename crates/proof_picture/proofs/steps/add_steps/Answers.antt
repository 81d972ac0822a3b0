use Rattle.std.proofs.Common.{◌+◌, take, get_or}
use Rattle.std.proofs.lemmas.List.{take_more}
use Rattle.proof_picture.proofs.StepLoops.{one_more}
use Rattle.proof_picture.proofs.steps.add_steps.Goals as goal

pub loop-step-preserved : goal.loop-step-preserved
loop-step-preserved c v i =
    let path = c.args.path.now in
    let k = c.loop-step.step-index in
    one_more (take (k + 1) path) (take k path) (get_or path k _) v i _ _ _ (take_more path k _ c.loop-step-test.true)
    (c.in_ok-insert.ensures.updates.0 (record { node = v; edge = i })) (c.loop-step.invariant v i)
