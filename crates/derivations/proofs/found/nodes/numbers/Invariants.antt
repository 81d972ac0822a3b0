use Rattle.std.proofs.Common.{◌≡◌, ◌++◌, map, drop}
use Rattle.trace_pairs.specs.Graph.{Edge}
use Rattle.derivations.proofs.found.nodes.numbers.Given as goal

abbrev pub invariant-loop-edge : goal.invariant-loop-edge
invariant-loop-edge l = l.numbers.items ++ map (λ (e : Edge). e.target) (drop l.edge-index l.traces.edges)
    ≡ map (λ (e : Edge). e.target) l.traces.edges
