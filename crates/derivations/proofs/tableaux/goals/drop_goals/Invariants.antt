use Rattle.std.proofs.Common.{◌≡◌, length, reverse}
use Rattle.derivations.specs.Goals.{others_of}
use Rattle.derivations.proofs.tableaux.goals.drop_goals.Given as goal

abbrev pub invariant-loop-goals : goal.invariant-loop-goals
invariant-loop-goals g l = others_of l.node (reverse l.goals.items) ≡ others_of l.fn.node (reverse l.fn.goals.items)

abbrev pub decreases-loop-goals : goal.decreases-loop-goals
decreases-loop-goals g l = length l.goals.items
