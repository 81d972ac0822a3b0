use Rattle.std.proofs.Common.{◌+◌, refl}
use Rattle.goto_lang.specs.States.{state_of}
use Rattle.general_models.proofs.RunEnds.{fault_refutes}
use Rattle.general_models.proofs.runs.refuting.faults_after.Goals as goal

pub returns : goal.returns
returns c =
    fault_refutes c.args.program.now c.args.w c.args.picks.now (state_of c.args.start.now) (c.args.n + 1)
    c.in_ok-end.end c.in_ok-end.ensures.answer c.args.n c.is_fault_after.result refl c.is_fault_after.ensures
