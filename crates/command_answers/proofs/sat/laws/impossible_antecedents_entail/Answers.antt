use Rattle.command_answers.proofs.Impossible.{impossible_holds}
use Rattle.command_answers.proofs.sat.laws.impossible_antecedents_entail.Goals as goal

pub returns : goal.returns
returns c problem none = impossible_holds problem.defs.list problem.program problem.goal none
