use Rattle.std.proofs.Common.{◌≡◌, ◌+◌, drop}
use Rattle.fo_search.specs.Links.{least_place}
use Rattle.fo_search.proofs.moves.linking.least_place.Given as goal

abbrev pub invariant-loop-k : goal.invariant-loop-k
invariant-loop-k l = l.k + least_place (drop l.k l.atoms) l.atom ≡ least_place l.atoms l.atom
