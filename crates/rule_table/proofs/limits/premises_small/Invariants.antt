use Rattle.std.proofs.Common.{◌≡◌, drop}
use Rattle.rule_table.specs.Answer.{each_heap, has_numbers}
use Rattle.rule_table.proofs.limits.premises_small.Given as goal

abbrev pub invariant-loop-premise : goal.invariant-loop-premise
invariant-loop-premise l = each_heap has_numbers (drop l.premise-index l.premises) ≡ each_heap has_numbers l.premises
