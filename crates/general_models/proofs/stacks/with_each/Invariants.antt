use Rattle.std.proofs.Common.{◌≡◌, ◌++◌, drop}
use Rattle.general_models.specs.RangedGrounding.{with_each}
use Rattle.general_models.proofs.stacks.with_each.Given as goal

abbrev pub invariant-loop-stack : goal.invariant-loop-stack
invariant-loop-stack l = l.longer.items ++ with_each l.range (drop l.stack-index l.stacks) ≡ with_each l.range l.stacks
