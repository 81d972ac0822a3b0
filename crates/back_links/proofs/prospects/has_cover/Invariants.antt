use Rattle.std.proofs.Common.{◌≡◌, ◌-◌, length}
use Rattle.std.specs.Prelude.{slice_get}
use Rattle.std.specs.List.{list_any, range_with_len}
use Rattle.heap_formula.specs.Substitution.{apply_heap}
use Rattle.rule_table.specs.LinkTable.{covers_some}
use Rattle.back_links.proofs.prospects.has_cover.Given as goal

abbrev pub invariant-loop-m : goal.invariant-loop-m
invariant-loop-m l = list_any (λ m. covers_some (apply_heap l.subst l.c) (slice_get l.disjuncts m))
    (range_with_len l.m (length l.disjuncts - l.m)) ≡ list_any
    (λ m. covers_some (apply_heap l.subst l.c) (slice_get l.disjuncts m)) (range_with_len 0 (length l.disjuncts))
