use Rattle.fo_search.proofs.Offered.{links_lead, links_right}
use Rattle.fo_search.proofs.moves.laws.offered_links_have_no_fault.Goals as goal

pub returns-clause-target : goal.returns-clause-target
returns-clause-target c = links_lead

pub returns-clause-fault : goal.returns-clause-fault
returns-clause-fault c = links_right
