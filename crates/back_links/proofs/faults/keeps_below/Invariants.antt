use Rattle.std.proofs.Common.{◌≡◌}
use Rattle.rule_table.specs.LinkTable.{keeps_below}
use Rattle.back_links.proofs.faults.keeps_below.Given as goal

abbrev pub invariant-loop-left : goal.invariant-loop-left
invariant-loop-left l = keeps_below l.subst l.left ≡ keeps_below l.subst l.p

abbrev pub decreases-loop-left : goal.decreases-loop-left
decreases-loop-left l = l.left
