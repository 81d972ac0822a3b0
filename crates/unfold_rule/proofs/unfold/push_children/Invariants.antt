use Rattle.std.proofs.Common.{◌≡◌, ◌+◌, ◌++◌, drop}
use Rattle.heap_formula.specs.Positions.{child_pairs}
use Rattle.unfold_rule.proofs.unfold.push_children.Given as goal

abbrev pub invariant-loop-i : goal.invariant-loop-i
invariant-loop-i l = l.pairs ++ child_pairs l.k (l.first + l.i) (drop l.i l.atoms) ≡ l.initial.pairs
    ++ child_pairs l.k l.first l.atoms
