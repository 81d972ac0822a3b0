use Rattle.fo_logic.proofs.Correct.{correct_hold}
use Rattle.fo_logic.proofs.laws.correct_proofs_hold.Goals as goal

pub returns : goal.returns
returns c = correct_hold
