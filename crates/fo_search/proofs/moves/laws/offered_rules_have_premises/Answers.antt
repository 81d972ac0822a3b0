use Rattle.fo_search.proofs.Offered.{before_goes, after_goes}
use Rattle.fo_search.proofs.moves.laws.offered_rules_have_premises.Goals as goal

pub returns-clause-before : goal.returns-clause-before
returns-clause-before c = before_goes

pub returns-clause-after : goal.returns-clause-after
returns-clause-after c = after_goes
