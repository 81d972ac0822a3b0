use Rattle.std.proofs.Common.{◌≡◌, drop}
use Rattle.search_moves.specs.Settings.{theory_of}
use Rattle.search_moves.specs.Lines.{offered_from}
use Rattle.search_moves.proofs.entailments.offers_from.Given as goal

abbrev pub invariant-loop-line : goal.invariant-loop-line
invariant-loop-line l = offered_from (theory_of l.at) l.at.judgement.now l.left l.right (drop l.line-index l.lines)
    ≡ offered_from (theory_of l.at) l.at.judgement.now l.left l.right l.lines
