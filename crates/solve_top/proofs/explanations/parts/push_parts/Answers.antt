use Rattle.solve_top.proofs.NoteLaws.{one-part}
use Rattle.solve_top.proofs.explanations.parts.push_parts.Goals as goal

pub loop-part-preserved : goal.loop-part-preserved
loop-part-preserved c = one-part _ _ _ c.args.parts.now c.loop-part.part-index _ c.loop-part-test.true
    c.loop-part.invariant c.in_ok-push_part.ensures.text c.in_ok-push_part.ensures.fits
