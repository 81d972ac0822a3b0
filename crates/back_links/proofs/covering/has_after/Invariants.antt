use Rattle.std.proofs.Common.{◌≡◌, map, drop}
use Rattle.heap_formula.specs.Substitution.{apply_pure}
use Rattle.rule_table.specs.Tests.{has_pure}
use Rattle.back_links.proofs.covering.has_after.Given as goal

abbrev pub invariant-loop-y : goal.invariant-loop-y
invariant-loop-y l = has_pure (map (apply_pure l.subst) (drop l.y-index l.pures)) l.x
    ≡ has_pure (map (apply_pure l.subst) l.pures) l.x
