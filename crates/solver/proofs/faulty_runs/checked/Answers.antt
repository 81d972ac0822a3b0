use Rattle.solver.proofs.Faulty.{faulty_run}
use Rattle.solver.proofs.faulty_runs.checked.Goals as goal

pub returns : goal.returns
returns c = faulty_run c.args.problem.now _ _ _ _ c.in-Some.file _ c.in_ok-file.field-0 c.in-Some.is
    c.in_ok-file.ensures (c.in_ok-yes.ensures c.if-not-yes.false)
