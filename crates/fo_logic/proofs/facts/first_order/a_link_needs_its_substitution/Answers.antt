use Rattle.std.proofs.Common.{refl}
use Rattle.fo_logic.proofs.facts.first_order.a_link_needs_its_substitution.Goals as goal

pub returns : goal.returns
returns c = refl
