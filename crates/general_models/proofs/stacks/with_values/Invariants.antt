use Rattle.std.proofs.Common.{◌≡◌}
use Rattle.general_models.specs.RangedGrounding.{with_values}
use Rattle.general_models.proofs.stacks.with_values.Given as goal

abbrev pub invariant-loop-i : goal.invariant-loop-i
invariant-loop-i l = l.stacks.items ≡ with_values l.range l.fn.stack l._i
