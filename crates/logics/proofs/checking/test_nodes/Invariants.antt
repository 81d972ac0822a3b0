use Rattle.logics.proofs.Checks.{AreTested}
use Rattle.logics.proofs.checking.test_nodes.Given as goal

abbrev pub invariant-loop-v : goal.invariant-loop-v
invariant-loop-v g l = AreTested (g.L.Logic.logic l.logic) l.nodes l.graph l.v
