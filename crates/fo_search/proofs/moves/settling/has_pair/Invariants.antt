use Rattle.std.proofs.Common.{◌≡◌, drop}
use Rattle.fo_search.specs.Choosing.{has_pair}
use Rattle.fo_search.proofs.moves.settling.has_pair.Given as goal

abbrev pub invariant-loop-from : goal.invariant-loop-from
invariant-loop-from l = has_pair (drop l.from-index l.pairs) l.n ≡ has_pair l.pairs l.n
