use Rattle.fo_logic.proofs.Free.{not_empty}
use Rattle.fo_logic.proofs.facts.two_lists_are_not_empty.Goals as goal

pub returns : goal.returns
returns c = not_empty
