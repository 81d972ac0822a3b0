use Rattle.std.proofs.Common.{◌≡◌, ◌++◌, drop}
use Rattle.cyc_runs.specs.Texts.{steps_text}
use Rattle.cyc_runs.proofs.texts.verdicts.push_steps.Given as goal

-- The text so far and the texts of the steps that are left.
abbrev pub invariant-loop-step : goal.invariant-loop-step
invariant-loop-step l = l.text ++ steps_text (drop l.step-index l.steps) ≡ l.fn.text ++ steps_text l.steps
