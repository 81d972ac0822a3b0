use Rattle.heap_formula.specs.Programs.{EndHolds}
use Rattle.general_models.proofs.Halting.{never_halts}
use Rattle.general_models.proofs.runs.laws.refuting_runs_never_halt.Goals as goal

pub returns : goal.returns
returns c ds rest = never_halts (EndHolds ds rest)
