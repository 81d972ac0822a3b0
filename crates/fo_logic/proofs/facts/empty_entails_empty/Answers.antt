use Rattle.fo_logic.proofs.Free.{empty_entails}
use Rattle.fo_logic.proofs.facts.empty_entails_empty.Goals as goal

pub returns : goal.returns
returns c = empty_entails
