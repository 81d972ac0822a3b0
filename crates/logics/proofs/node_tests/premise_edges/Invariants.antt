use Rattle.std.proofs.Common.{◌≡◌, ◌+◌, ◌++◌, drop, length}
use Rattle.logics.specs.Graphs.{edges_to}
use Rattle.logics.proofs.node_tests.premise_edges.Given as goal

abbrev pub invariant-loop-premise : goal.invariant-loop-premise
invariant-loop-premise g l =
    let rest = l.premise-iterator.rest.items in
    (length l.edges.items + length rest ≡ length l.numbers)
    × (l.edges.items ++ edges_to rest (drop (length l.edges.items) l.numbers)
    ≡ edges_to l.fn.premises.items l.numbers)
