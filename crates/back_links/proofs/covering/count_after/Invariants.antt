use Rattle.std.proofs.Common.{◌≡◌, ◌+◌, ◌≤◌, map, drop}
use Rattle.heap_formula.specs.Substitution.{apply_spatial}
use Rattle.rule_table.specs.RuleLink.{count_of}
use Rattle.back_links.proofs.covering.count_after.Given as goal

abbrev pub invariant-loop-y : goal.invariant-loop-y
invariant-loop-y l = (l.count + count_of l.x (map (apply_spatial l.subst) (drop l.y-index l.atoms))
    ≡ count_of l.x (map (apply_spatial l.subst) l.atoms)) × (l.count ≤ l.y-index)
