use Rattle.general_models.proofs.Halting.{picked_goes}
use Rattle.general_models.proofs.runs.laws.steps_of_runs_are_steps.Goals as goal

pub returns : goal.returns
returns c = picked_goes
