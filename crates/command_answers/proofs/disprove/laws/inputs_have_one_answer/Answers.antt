use Rattle.command_answers.proofs.DisproveOneAnswer.{one_answer}
use Rattle.command_answers.proofs.disprove.laws.inputs_have_one_answer.Goals as goal

pub returns : goal.returns
returns c = one_answer
