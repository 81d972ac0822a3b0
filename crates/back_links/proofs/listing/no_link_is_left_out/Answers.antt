use Rattle.back_links.proofs.Complete.{listed}
use Rattle.back_links.proofs.listing.no_link_is_left_out.Goals as goal

pub returns : goal.returns
returns c = listed
