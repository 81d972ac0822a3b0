use Rattle.std.proofs.Common.{◌≡◌, ◌++◌, drop}
use Rattle.rule_logics.specs.Logic.{to_itself}
use Rattle.rule_logics.proofs.by_rules.to_itself.Given as goal

abbrev pub invariant-loop-position : goal.invariant-loop-position
invariant-loop-position l = l.pairs.items ++ to_itself (drop l.position-index l.positions) ≡ to_itself l.positions
