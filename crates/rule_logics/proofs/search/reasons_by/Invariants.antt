use Rattle.std.proofs.Common.{◌≡◌, ◌++◌, map}
use Rattle.std.specs.VecDeque.{deque_len}
use Rattle.rule_logics.specs.declared.reasons.Reason.TheVariants.{Rule}
use Rattle.rule_logics.proofs.search.reasons_by.Given as goal

abbrev pub invariant-loop-rule : goal.invariant-loop-rule
invariant-loop-rule g l = l.reasons.items ++ map Rule l.rules.items ≡ map Rule l.fn.rules.items

abbrev pub decreases-loop-rule : goal.decreases-loop-rule
decreases-loop-rule g l = deque_len l.rules
