use Rattle.proof_check.proofs.Checked.{correct_holds}
use Rattle.proof_check.proofs.laws.correct_files_hold.Goals as goal

pub returns : goal.returns
returns c = correct_holds
