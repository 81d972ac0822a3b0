use Rattle.proof_search.proofs.RulesWithin.{rules_within}
use Rattle.proof_search.proofs.files.offers.rules_stay_within.Goals as goal

pub returns : goal.returns
returns c = rules_within
