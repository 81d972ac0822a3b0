use Rattle.std.proofs.Common.{◌≤◌}
use Rattle.goto_lang.specs.States.{state_of, IsStateOf}
use Rattle.general_models.specs.Runs.{PickedRun}
use Rattle.general_models.proofs.runs.running.run.Given as goal

abbrev pub invariant-loop-done : goal.invariant-loop-done
invariant-loop-done l = record {
  run : PickedRun l.program l.w l.picks l.done (state_of l.fn.start) l.used (state_of l.current);
  state : IsStateOf l.program (state_of l.current);
  few : l.used ≤ l.done;
}
