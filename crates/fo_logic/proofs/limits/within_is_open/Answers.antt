use Rattle.fo_logic.proofs.Open.{sequent_open, reason_open}
use Rattle.fo_logic.proofs.limits.within_is_open.Goals as goal

pub returns-clause-sequents : goal.returns-clause-sequents
returns-clause-sequents c = sequent_open

pub returns-clause-reasons : goal.returns-clause-reasons
returns-clause-reasons c = reason_open
