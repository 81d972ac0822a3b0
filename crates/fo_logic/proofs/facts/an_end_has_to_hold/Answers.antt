use Rattle.fo_logic.proofs.Allocates.{end_holds}
use Rattle.fo_logic.proofs.facts.an_end_has_to_hold.Goals as goal

pub returns : goal.returns
returns c = end_holds
