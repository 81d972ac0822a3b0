use Rattle.std.proofs.Common.{◌≡◌, ◌≤◌, ◌+◌, ◌++◌, length, reverse}
use Rattle.derivations.specs.Tableau.{goals_of}
use Rattle.derivations.proofs.tableaux.goals.push_goals.Given as goal

abbrev pub invariant-loop-premise : goal.invariant-loop-premise
invariant-loop-premise g l =
    (goals_of l.node (l.depth + 1) 0 l.premises.items ++ reverse l.goals.items
    ≡ goals_of l.fn.node (l.fn.depth + 1) 0 l.fn.premises.items ++ reverse l.fn.goals.items)
    × (length l.premises.items ≤ length l.fn.premises.items) × (l.depth ≡ l.fn.depth) × (l.node ≡ l.fn.node)

abbrev pub decreases-loop-premise : goal.decreases-loop-premise
decreases-loop-premise g l = length l.premises.items
