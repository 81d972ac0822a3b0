use Rattle.std.proofs.Common.{◌≡◌, ℕ, take}
use Rattle.std.specs.Prelude.{◌||◌}
use Rattle.proof_picture.specs.Red.{has_step, step_in}
use Rattle.proof_picture.proofs.steps.add_steps.Given as goal

-- The steps so far are kept.
abbrev pub invariant-loop-step : goal.invariant-loop-step
invariant-loop-step l = (v i : ℕ) → step_in l.steps.keys v i
    ≡ (step_in l.fn.steps.keys v i || has_step (take l.step-index l.path) v i)
