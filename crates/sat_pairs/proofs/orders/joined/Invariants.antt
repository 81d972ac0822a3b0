use Rattle.std.proofs.Common.{List, length}
use Rattle.heap_formula.specs.declared.atoms.Spatial.{Spatial}
use Rattle.sat_pairs.specs.Joins.{IsJoined}
use Rattle.sat_pairs.proofs.orders.joined.Given as goal

-- what is joined from here is joined from the beginning
abbrev pub invariant-loop-ordered : goal.invariant-loop-ordered
invariant-loop-ordered l = (out : List Spatial) → IsJoined l.k l.ordered.items l.left.items out
    → IsJoined l.k l.fn.taken.items l.fn.others.items out

abbrev pub decreases-loop-ordered : goal.decreases-loop-ordered
decreases-loop-ordered l = length l.left.items
