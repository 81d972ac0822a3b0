use Rattle.cyc_top.proofs.OneAnswer.{one_answer}
use Rattle.cyc_top.proofs.laws.an_input_has_one_answer.Goals as goal

pub returns : goal.returns
returns c = one_answer
