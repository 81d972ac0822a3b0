use Rattle.std.proofs.Common.{◌≡◌, drop}
use Rattle.pair_family.specs.JoinOrder.{is_new}
use Rattle.sat_pairs.proofs.orders.is_new.Given as goal

abbrev pub invariant-loop-atom : goal.invariant-loop-atom
invariant-loop-atom l = is_new (drop l.atom-index l.taken) l.term ≡ is_new l.taken l.term
