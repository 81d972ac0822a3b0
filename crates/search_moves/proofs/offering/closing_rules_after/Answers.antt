use Rattle.std.proofs.lemmas.Result.{IfOk-weaker}
use Rattle.search_moves.proofs.OfferedParts.{whole_part}
use Rattle.search_moves.proofs.offering.closing_rules_after.Goals as goal

pub returns-in_default-clause-offered : goal.returns-in_default-clause-offered
returns-in_default-clause-offered c = IfOk-weaker c.rules_after.result _ _ (λ rules is. whole_part _ _ is)
    c.rules_after.ensures
