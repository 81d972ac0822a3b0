use Rattle.proof_search.proofs.FileFound.{makes_proof}
use Rattle.proof_search.proofs.files.found_is_proof.Goals as goal

pub returns : goal.returns
returns c = makes_proof
