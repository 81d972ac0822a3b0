use Rattle.std.proofs.Common.{◌≡◌, ◌++◌, map, drop}
use Rattle.proof_graph.specs.Traces.{graph_edge}
use Rattle.proof_graph.proofs.traces.trace_edges.Given as goal

abbrev pub invariant-loop-edge : goal.invariant-loop-edge
invariant-loop-edge l = l.traced.items ++ map graph_edge (drop l.edge-index l.edges) ≡ map graph_edge l.edges
