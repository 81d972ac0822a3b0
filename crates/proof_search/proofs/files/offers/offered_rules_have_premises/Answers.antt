use Rattle.proof_search.proofs.RulesGo.{rules_go}
use Rattle.proof_search.proofs.files.offers.offered_rules_have_premises.Goals as goal

pub returns : goal.returns
returns c = rules_go
