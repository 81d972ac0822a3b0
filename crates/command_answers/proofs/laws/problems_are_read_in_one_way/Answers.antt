use Rattle.command_answers.proofs.Readings.{one_problem_reading}
use Rattle.command_answers.proofs.laws.problems_are_read_in_one_way.Goals as goal

pub returns : goal.returns
returns c = one_problem_reading
