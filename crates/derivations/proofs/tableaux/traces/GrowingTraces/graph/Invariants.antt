use Rattle.std.proofs.Common.{◌≡◌, ◌++◌, drop}
use Rattle.derivations.proofs.tableaux.traces.GrowingTraces.graph.Given as goal

abbrev pub invariant-loop-node : goal.invariant-loop-node
invariant-loop-node l = l.graph ++ drop l.node-index l.node-items ≡ l.node-items
