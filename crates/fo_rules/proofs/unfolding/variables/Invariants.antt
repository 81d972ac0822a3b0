use Rattle.std.proofs.Common.{◌≡◌, ◌+◌, ◌-◌, ◌++◌}
use Rattle.fo_formula.specs.Table.{variables_from}
use Rattle.fo_rules.proofs.unfolding.variables.Given as goal

abbrev pub invariant-loop-k : goal.invariant-loop-k
invariant-loop-k l = l.all.items ++ variables_from (l.number + l.k) (l.count - l.k) ≡ variables_from l.number l.count
