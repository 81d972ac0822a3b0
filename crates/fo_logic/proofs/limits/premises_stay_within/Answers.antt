use Rattle.fo_logic.proofs.Premises.{premises_within}
use Rattle.fo_logic.proofs.limits.premises_stay_within.Goals as goal

pub returns : goal.returns
returns c = premises_within
