use Rattle.std.proofs.Common.{arith}
use Rattle.model_check.proofs.FirstBad.{bad_here, good_here}
use Rattle.model_check.proofs.places.first_bad.Goals as goal

pub returns-then-not-branch : goal.returns-then-not-branch
returns-then-not-branch c =
    bad_here c.args.heaps.now c.loop-i.i c.in_ok-small.field-0 c.index-heaps-i.result c.in_ok-is_constructive.field-0
    (omega arith)
    c.index-heaps-i.is c.loop-i.invariant c.in_ok-is_constructive.ensures c.if-not-branch.true
    c.in_ok-small.ensures.value

pub loop-i-preserved : goal.loop-i-preserved
loop-i-preserved c =
    good_here c.args.heaps.now c.loop-i.i c.index-heaps-i.result c.in_ok-is_constructive.field-0 (omega arith)
    c.index-heaps-i.is c.loop-i.invariant c.in_ok-is_constructive.ensures c.if-not-branch.false
