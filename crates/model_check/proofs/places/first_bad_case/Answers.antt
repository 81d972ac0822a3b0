use Rattle.std.proofs.Common.{arith}
use Rattle.model_check.proofs.FirstBad.{bad_case_here}
use Rattle.model_check.proofs.places.first_bad_case.Goals as goal

pub returns-in-Some : goal.returns-in-Some
returns-in-Some c =
    bad_case_here c.args.defs.now c.loop-p.p c.in-Some.c c.index-defs-p.result c.heaps.result.now (omega arith)
    c.index-defs-p.is c.loop-p.invariant c.heaps.ensures (rw c.in-Some.is at c.in_ok-c.ensures)
