use Rattle.fo_logic.proofs.Allocates.{halts}
use Rattle.fo_logic.proofs.facts.stop_halts.Goals as goal

pub returns : goal.returns
returns c = halts
