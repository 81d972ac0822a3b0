use Rattle.std.proofs.Common.{◌≡◌, take}
use Rattle.general_models.specs.RangedGrounding.{opened}
use Rattle.general_models.proofs.opening.opened.Given as goal

abbrev pub invariant-loop-i : goal.invariant-loop-i
invariant-loop-i l = l.copy ≡ opened l.heap l.first (take l.i l.chosen)
