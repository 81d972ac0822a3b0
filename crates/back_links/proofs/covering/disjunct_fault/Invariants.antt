use Rattle.std.proofs.Common.{◌≡◌, ◌≤◌, map, drop, length}
use Rattle.heap_formula.specs.Substitution.{apply_heap}
use Rattle.rule_table.specs.LinkTable.{disjunct_fault}
use Rattle.back_links.proofs.covering.disjunct_fault.Given as goal

abbrev pub invariant-loop-k : goal.invariant-loop-k
invariant-loop-k l = (disjunct_fault l.disjuncts l.k (drop l.k l.entries) (map (apply_heap l.subst) (drop l.k l.cs))
    ≡ disjunct_fault l.disjuncts 0 l.entries (map (apply_heap l.subst) l.cs)) × (l.k ≤ length l.entries)
