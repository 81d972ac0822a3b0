use Rattle.std.proofs.Common.{sym}
use Rattle.search_moves.specs.Settings.{theory_of}
use Rattle.search_moves.proofs.OfferedParts.{absurd_first}
use Rattle.search_moves.proofs.offering.rules_before.Goals as goal

pub returns-then-not-is_empty : goal.returns-then-not-is_empty
returns-then-not-is_empty c =
    absurd_first (theory_of c.args.at.now)
    c.args.at.now.judgement.now c.in_ok-rules.rules.items _ c.in_ok-rules.ensures c.in_ok-rules.rules.ok.0
    (sym c.if-not-is_empty.ensures)
