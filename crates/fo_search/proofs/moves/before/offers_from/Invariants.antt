use Rattle.std.proofs.Common.{◌≡◌, drop}
use Rattle.fo_search.specs.Lines.{offered_from}
use Rattle.fo_search.proofs.moves.before.offers_from.Given as goal

abbrev pub invariant-loop-line : goal.invariant-loop-line
invariant-loop-line l = offered_from l.theory l.sequent (drop l.line-index l.lines)
    ≡ offered_from l.theory l.sequent l.lines
