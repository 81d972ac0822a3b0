use Rattle.std.proofs.Common.{◌≡◌, drop}
use Rattle.cyc_basics.specs.Sets.{has}
use Rattle.cyc_basics.proofs.positions.has_position.Given as goal

abbrev pub invariant-loop-x : goal.invariant-loop-x
invariant-loop-x l = has (drop l.x-index l.set) l.position ≡ has l.set l.position
