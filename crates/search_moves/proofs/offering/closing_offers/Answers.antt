use Rattle.std.proofs.Common.{sym}
use Rattle.search_moves.specs.Settings.{theory}
use Rattle.search_moves.proofs.FewCases.{few_cases}
use Rattle.search_moves.proofs.OfferedParts.{before_part}
use Rattle.search_moves.proofs.offering.closing_offers.Goals as goal

pub closing_rules_after-requires-clause-cases : goal.closing_rules_after-requires-clause-cases
closing_rules_after-requires-clause-cases c = few_cases c.args.defs.now.list c.requires.small

pub returns-then-not-is_empty-clause-offered : goal.returns-then-not-is_empty-clause-offered
returns-then-not-is_empty-clause-offered c =
    before_part (theory c.args.defs.now c.args.program.now)
    c.args.made.now c.args.goal.now _ _ c.in_ok-rules.ensures
    c.in_ok-rules.rules.ok.0 (sym c.if-not-is_empty.ensures)
