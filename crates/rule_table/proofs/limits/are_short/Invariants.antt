use Rattle.std.proofs.Common.{◌≡◌, drop}
use Rattle.std.specs.List.{list_all}
use Rattle.rule_table.specs.Answer.{is_short}
use Rattle.rule_table.proofs.limits.are_short.Given as goal

abbrev pub invariant-loop-heap : goal.invariant-loop-heap
invariant-loop-heap l = list_all (is_short l.most) (drop l.heap-index l.heaps) ≡ list_all (is_short l.most) l.heaps
