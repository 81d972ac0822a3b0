use Rattle.fo_search.proofs.Offered.{before_small, links_small, after_small}
use Rattle.fo_search.proofs.moves.laws.offered_reasons_are_small.Goals as goal

pub returns-clause-before : goal.returns-clause-before
returns-clause-before c = before_small

pub returns-clause-links : goal.returns-clause-links
returns-clause-links c = links_small

pub returns-clause-after : goal.returns-clause-after
returns-clause-after c = after_small
