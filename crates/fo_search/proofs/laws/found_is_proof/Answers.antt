use Rattle.fo_search.proofs.Found.{makes_proof}
use Rattle.fo_search.proofs.laws.found_is_proof.Goals as goal

pub returns : goal.returns
returns c = makes_proof
