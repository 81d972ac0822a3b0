use Rattle.std.proofs.Common.{◌≡◌, ◌++◌}
use Rattle.fo_formula.specs.Table.{equations}
use Rattle.fo_rules.proofs.splitting.push_equations.Given as goal

abbrev pub invariant-loop-remaining : goal.invariant-loop-remaining
invariant-loop-remaining l =
    l.all.items ++ equations l.remaining l.first l.second ≡ l.initial.all.items ++ equations l.fn.count l.fn.a l.fn.b

abbrev pub decreases-loop-remaining : goal.decreases-loop-remaining
decreases-loop-remaining l = l.remaining
