use Rattle.command_answers.proofs.Readings.{one_question_reading}
use Rattle.command_answers.proofs.laws.first_order_problems_are_read_in_one_way.Goals as goal

pub returns : goal.returns
returns c = one_question_reading
