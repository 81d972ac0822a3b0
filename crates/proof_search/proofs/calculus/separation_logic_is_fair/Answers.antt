use Rattle.proof_search.proofs.Fair.{separation_logic_fair}
use Rattle.proof_search.proofs.calculus.separation_logic_is_fair.Goals as goal

pub returns : goal.returns
returns c = separation_logic_fair
