use Rattle.general_models.proofs.Halting.{no_termination}
use Rattle.general_models.proofs.runs.laws.refuting_runs_exclude_termination.Goals as goal

pub returns : goal.returns
returns c = no_termination
