use Rattle.proof_search.proofs.LinksFit.{links_fit}
use Rattle.proof_search.proofs.files.offers.offered_links_have_no_fault.Goals as goal

pub returns : goal.returns
returns c = links_fit
