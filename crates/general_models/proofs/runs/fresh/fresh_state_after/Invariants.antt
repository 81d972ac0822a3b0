use Rattle.std.proofs.Common.{◌≤◌}
use Rattle.goto_lang.specs.States.{state_of, IsStateOf}
use Rattle.general_models.specs.Growing.{FreshRun}
use Rattle.general_models.proofs.runs.fresh.fresh_state_after.Given as goal

abbrev pub invariant-loop-done : goal.invariant-loop-done
invariant-loop-done l = record {
  run : FreshRun l.program l.w l.picks l.first l.done (state_of l.fn.start) l.used (state_of l.current);
  state : IsStateOf l.program (state_of l.current);
  few : l.used ≤ l.done;
}
