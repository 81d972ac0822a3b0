use Rattle.fo_logic.proofs.Allocates.{never_halts}
use Rattle.fo_logic.proofs.facts.allocation_without_end_does_not_halt.Goals as goal

pub returns : goal.returns
returns c = never_halts
