use Rattle.std.proofs.Common.{◌≡◌, ◌++◌, drop}
use Rattle.search_moves.specs.Places.{each_from}
use Rattle.search_moves.specs.Offering.{links_to, candidates}
use Rattle.search_moves.proofs.companions.candidates.Given as goal

abbrev pub invariant-loop-number : goal.invariant-loop-number
invariant-loop-number l =
    l.links.items ++ each_from (links_to 1000000 l.program l.judgement) l.number (drop l.number l.made)
    ≡ candidates l.program l.made l.judgement
