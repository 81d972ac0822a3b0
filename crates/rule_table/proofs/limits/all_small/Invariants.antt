use Rattle.std.proofs.Common.{◌≡◌, drop}
use Rattle.std.specs.List.{list_all}
use Rattle.rule_table.specs.Answer.{has_numbers}
use Rattle.rule_table.proofs.limits.all_small.Given as goal

abbrev pub invariant-loop-heap : goal.invariant-loop-heap
invariant-loop-heap l = list_all has_numbers (drop l.heap-index l.heaps) ≡ list_all has_numbers l.heaps
