use Rattle.std.proofs.Common.{◌≡◌, length}
use Rattle.fo_search.specs.Choosing.{does}
use Rattle.fo_search.specs.Walks.{choices_left, nodes_left}
use Rattle.fo_search.proofs.moves.walking.seek.Given as goal

abbrev pub invariant-loop-walk : goal.invariant-loop-walk
invariant-loop-walk l =
    choices_left (does l.search.wanted) l.search.values.now l.walk
    ≡ choices_left (does l.search.wanted) l.search.values.now l.initial.walk

abbrev pub decreases-loop-walk : goal.decreases-loop-walk
decreases-loop-walk l = nodes_left (length l.search.values.now) l.walk
