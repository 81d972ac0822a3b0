use Rattle.std.proofs.Common.{◌≡◌, map, drop}
use Rattle.heap_formula.specs.Substitution.{apply_pure}
use Rattle.rule_table.specs.LinkTable.{all_follow}
use Rattle.back_links.proofs.covering.all_follow.Given as goal

abbrev pub invariant-loop-x : goal.invariant-loop-x
invariant-loop-x l = all_follow (map (apply_pure l.subst) l.pures) (drop l.x-index l.xs)
    ≡ all_follow (map (apply_pure l.subst) l.pures) l.xs
