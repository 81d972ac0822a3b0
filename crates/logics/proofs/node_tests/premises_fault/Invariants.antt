use Rattle.std.proofs.Common.{◌≡◌, drop}
use Rattle.logics.specs.Faults.{premises_fault}
use Rattle.logics.proofs.node_tests.premises_fault.Given as goal

abbrev pub invariant-loop-i : goal.invariant-loop-i
invariant-loop-i g l =
    premises_fault (g.L.Logic.logic l.logic) l.nodes l.v l.i (drop l.i l.premises) (drop l.i l.numbers)
    ≡ premises_fault (g.L.Logic.logic l.logic) l.nodes l.v 0 l.premises l.numbers
