use Rattle.std.proofs.Common.{◌≡◌, ◌++◌, drop}
use Rattle.proof_graph.specs.Nodes.{changed_at, with_reason}
use Rattle.proof_graph.specs.Traces.{trace_graph_of}
use Rattle.proof_graph.proofs.traces.traces_with.Given as goal

abbrev pub invariant-loop-i : goal.invariant-loop-i
invariant-loop-i l =
    let changed = changed_at (with_reason l.reason l.pairs) l.nodes l.place in
    l.graph ++ trace_graph_of (drop l.i changed) ≡ trace_graph_of changed
