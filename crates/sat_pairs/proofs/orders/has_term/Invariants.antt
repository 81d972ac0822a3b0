use Rattle.std.proofs.Common.{◌≡◌, drop}
use Rattle.pair_family.specs.Frames.{has_term}
use Rattle.sat_pairs.proofs.orders.has_term.Given as goal

abbrev pub invariant-loop-other : goal.invariant-loop-other
invariant-loop-other l = has_term (drop l.other-index l.terms) l.term ≡ has_term l.terms l.term
