use Rattle.std.proofs.Common.{refl}
use Rattle.fo_logic.proofs.facts.first_order.nodes_of_a_proof_are_right.Goals as goal

pub returns : goal.returns
returns c = refl
