use Rattle.search_moves.proofs.FewCases.{few_cases}
use Rattle.search_moves.proofs.offering.offers_of.Goals as goal

pub rules_after-requires-clause-cases : goal.rules_after-requires-clause-cases
rules_after-requires-clause-cases c = few_cases c.args.defs.now.list c.requires.small
