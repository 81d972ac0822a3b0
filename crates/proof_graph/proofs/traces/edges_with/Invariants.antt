use Rattle.std.proofs.Common.{◌≡◌, ◌++◌, drop}
use Rattle.proof_graph.specs.Nodes.{premises_of}
use Rattle.proof_graph.specs.Traces.{edges_of}
use Rattle.proof_graph.proofs.traces.edges_with.Given as goal

abbrev pub invariant-loop-pairs : goal.invariant-loop-pairs
invariant-loop-pairs l = record {
  same : l.slot ≡ l.fn.slot;
  made : l.edges.items ++ edges_of (premises_of l.fn.slot (drop l.pairs-index l.lists))
      ≡ edges_of (premises_of l.fn.slot l.lists);
}
