use Rattle.fo_logic.proofs.Endless.{endless}
use Rattle.fo_logic.proofs.facts.endless_predicates_are_empty.Goals as goal

pub returns : goal.returns
returns c = endless
