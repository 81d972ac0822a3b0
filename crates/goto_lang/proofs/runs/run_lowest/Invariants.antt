use Rattle.goto_lang.specs.States.{state_of, IsStateOf}
use Rattle.goto_lang.specs.Endings.{LowestRun}
use Rattle.goto_lang.proofs.runs.run_lowest.Given as goal

abbrev pub invariant-loop-done : goal.invariant-loop-done
invariant-loop-done l = LowestRun l.program l.done (state_of l.fn.config) (state_of l.current)
    × IsStateOf l.program (state_of l.current)
