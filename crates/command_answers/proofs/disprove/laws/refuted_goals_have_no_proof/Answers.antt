use Rattle.command_answers.proofs.Answered.{no_proof}
use Rattle.command_answers.proofs.disprove.laws.refuted_goals_have_no_proof.Goals as goal

pub returns : goal.returns
returns c = no_proof
