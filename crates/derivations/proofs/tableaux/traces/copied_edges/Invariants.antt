use Rattle.std.proofs.Common.{◌≡◌, ◌++◌, drop}
use Rattle.derivations.proofs.tableaux.traces.copied_edges.Given as goal

abbrev pub invariant-loop-edge : goal.invariant-loop-edge
invariant-loop-edge l = l.copies.items ++ drop l.edge-index l.edges ≡ l.edges
