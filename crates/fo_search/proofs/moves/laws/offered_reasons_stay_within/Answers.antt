use Rattle.fo_search.proofs.Offered.{before_within, links_within, after_within}
use Rattle.fo_search.proofs.moves.laws.offered_reasons_stay_within.Goals as goal

pub returns-clause-before : goal.returns-clause-before
returns-clause-before c = before_within

pub returns-clause-links : goal.returns-clause-links
returns-clause-links c = links_within

pub returns-clause-after : goal.returns-clause-after
returns-clause-after c = after_within
