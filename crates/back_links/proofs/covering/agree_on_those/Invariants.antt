use Rattle.std.proofs.Common.{◌≡◌, map, drop}
use Rattle.heap_formula.specs.Substitution.{apply_spatial}
use Rattle.rule_table.specs.LinkTable.{counts_agree}
use Rattle.back_links.proofs.covering.agree_on_those.Given as goal

abbrev pub invariant-loop-z : goal.invariant-loop-z
invariant-loop-z l = counts_agree l.xs (map (apply_spatial l.subst) l.ys)
    (map (apply_spatial l.subst) (drop l.z-index l.ys)) ≡ counts_agree l.xs (map (apply_spatial l.subst) l.ys)
    (map (apply_spatial l.subst) l.ys)
