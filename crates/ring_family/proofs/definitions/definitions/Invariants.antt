-- What is made, and then what is left, is the whole list.
use Rattle.std.proofs.Common.{◌≡◌, ◌-◌, ◌++◌}
use Rattle.ring_family.specs.Ring.{definitions_from, ring_definitions}
use Rattle.ring_family.proofs.definitions.definitions.Given as goal

abbrev pub invariant-loop-i : goal.invariant-loop-i
invariant-loop-i l = l.defs.items ++ definitions_from l.k l.i (l.k - l.i) ≡ ring_definitions l.k
