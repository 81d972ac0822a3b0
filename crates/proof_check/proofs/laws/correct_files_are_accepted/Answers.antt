use Rattle.proof_check.proofs.OneAnswer.{correct_is_accepted}
use Rattle.proof_check.proofs.laws.correct_files_are_accepted.Goals as goal

pub returns : goal.returns
returns c = correct_is_accepted
