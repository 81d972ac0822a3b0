use Rattle.std.proofs.Common.{◌≡◌}
use Rattle.general_models.specs.RangedGrounding.{front}
use Rattle.general_models.proofs.stacks.front.Given as goal

abbrev pub invariant-loop-i : goal.invariant-loop-i
invariant-loop-i l = l.first.items ≡ front l.i l.values
