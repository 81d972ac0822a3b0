use Rattle.fo_search.proofs.Fairness.{first_order_fair}
use Rattle.fo_search.proofs.calculus.first_order_is_fair.Goals as goal

pub returns : goal.returns
returns c = first_order_fair
