use Rattle.fo_file.proofs.Readings.{one-spelled-problem}
use Rattle.fo_file.proofs.problem_reading.bytes_spell_one_problem.Goals as goal

pub returns : goal.returns
returns c = one-spelled-problem
