use Rattle.goto_lang.specs.States.{state_of}
use Rattle.goto_lang.proofs.Ends.{stopped_here, faulted_here, running_here}
use Rattle.std.proofs.Common.{arith}
use Rattle.goto_lang.proofs.runs.ending.Goals as goal
use Rattle.goto_lang.proofs.runs.ending.Goals.{in-Stop, in-Fault, in-To}

pub returns : goal.returns
returns c = λ s run. elim c.match-branch-2.branch [
  | in-Stop w ↦ rw w.result-is (stopped_here c.args.program.now c.args.steps c.args.steps s (state_of c.args.config.now)
      c.in_ok-lowest_step.field-0 (omega arith) run c.in_ok-lowest_step.ensures w.in-Stop.is)
  | in-Fault w ↦ rw w.result-is (faulted_here c.args.program.now c.args.steps c.args.steps s
      (state_of c.args.config.now) c.in_ok-lowest_step.field-0 (omega arith)
      run c.in_ok-lowest_step.ensures w.in-Fault.is)
  | in-To w ↦ rw w.result-is (running_here c.args.program.now c.args.steps s (state_of c.args.config.now)
      c.in_ok-lowest_step.field-0 w.in-To.field-0 run c.in_ok-lowest_step.ensures w.in-To.is)
]
