use Rattle.std.proofs.Common.{◌≡◌, ℕ, subst, arith}
use Rattle.std.proofs.lemmas.Result.{IfOk-weaker}
use Rattle.goto_lang.specs.States.{state_of}
use Rattle.goto_lang.specs.Endings.{LowestRun}
use Rattle.goto_lang.proofs.Ends.{exact_ending, stopped_here, faulted_here, one_more}
use Rattle.goto_lang.proofs.runs.run_lowest.Goals as goal

pub returns-in-Stop : goal.returns-in-Stop
returns-in-Stop c =
    record {
      answer = exact_ending c.args.program.now c.args.steps (state_of c.args.config.now) _
          (stopped_here c.args.program.now c.args.steps c.loop-done.done (state_of c.args.config.now)
          (state_of c.loop-done.current) c.in_ok-lowest_step.field-0 (omega arith)
          c.loop-done.invariant.0 c.in_ok-lowest_step.ensures c.in-Stop.is);
    }

pub returns-in-Fault : goal.returns-in-Fault
returns-in-Fault c =
    record {
      answer = exact_ending c.args.program.now c.args.steps (state_of c.args.config.now) _
          (faulted_here c.args.program.now c.args.steps c.loop-done.done (state_of c.args.config.now)
          (state_of c.loop-done.current) c.in_ok-lowest_step.field-0 (omega arith)
          c.loop-done.invariant.0 c.in_ok-lowest_step.ensures c.in-Fault.is);
    }

pub loop-done-preserved : goal.loop-done-preserved
loop-done-preserved c =
    one_more c.args.program.now c.loop-done.done (state_of c.args.config.now) (state_of c.loop-done.current)
    c.in_ok-lowest_step.field-0 c.in-To.next c.loop-done.invariant.0 c.in_ok-lowest_step.ensures c.in-To.is

pub returns : goal.returns
returns c =
    let all : c.loop-done.done ≡ c.args.steps = omega arith in
    record {
      answer = IfOk-weaker c.ending.result _ _
          (λ r h. exact_ending c.args.program.now c.args.steps (state_of c.args.config.now) r h)
          (c.ending.ensures (state_of c.args.config.now) (subst
          (λ (n : ℕ). LowestRun c.args.program.now n (state_of c.args.config.now) (state_of c.loop-done.current))
          all c.loop-done.invariant.0));
    }
