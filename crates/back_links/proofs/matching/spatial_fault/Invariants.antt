use Rattle.std.proofs.Common.{◌≡◌, ◌≤◌, drop, take, map, [], length}
use Rattle.heap_formula.specs.Substitution.{apply_spatial}
use Rattle.rule_table.specs.LinkTable.{spatial_fault}
use Rattle.back_links.proofs.matching.spatial_fault.Given as goal

abbrev pub invariant-loop-k : goal.invariant-loop-k
invariant-loop-k l =
    (spatial_fault l.pures l.atoms l.whole (take l.k l.entries) l.k (drop l.k l.entries)
    (map (apply_spatial l.subst) (drop l.k l.xs)) ≡ spatial_fault l.pures l.atoms l.whole [] 0 l.entries
    (map (apply_spatial l.subst) l.xs)) × (l.k ≤ length l.entries)
