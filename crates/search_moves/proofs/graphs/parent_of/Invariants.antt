use Rattle.std.proofs.Common.{◌≡◌, ◌≤◌}
use Rattle.search_moves.specs.Graphs.{parent_among, parent_of}
use Rattle.search_moves.proofs.graphs.parent_of.Given as goal

abbrev pub invariant-loop-n : goal.invariant-loop-n
invariant-loop-n l = (parent_among l.graph l.n l.v ≡ parent_of l.graph l.v) × (l.n ≤ l.v)

abbrev pub decreases-loop-n : goal.decreases-loop-n
decreases-loop-n l = l.n
