use Rattle.std.proofs.Common.{◌≡◌, drop, map}
use Rattle.heap_formula.specs.Substitution.{apply_pure}
use Rattle.rule_table.specs.LinkTable.{pure_fault}
use Rattle.back_links.proofs.matching.pure_fault.Given as goal

abbrev pub invariant-loop-k : goal.invariant-loop-k
invariant-loop-k l = pure_fault l.pures l.k (map (apply_pure l.subst) (drop l.k l.atoms))
    ≡ pure_fault l.pures 0 (map (apply_pure l.subst) l.atoms)
