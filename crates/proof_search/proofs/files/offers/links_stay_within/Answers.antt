use Rattle.proof_search.proofs.LinksWithin.{links_within, links_back}
use Rattle.proof_search.proofs.files.offers.links_stay_within.Goals as goal

pub returns : goal.returns
returns c = record { within = links_within; back = links_back }
