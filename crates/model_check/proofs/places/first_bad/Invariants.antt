use Rattle.std.proofs.Common.{take}
use Rattle.heap_formula.specs.Words.{Each}
use Rattle.model_check.specs.Constructive.{IsConstructive}
use Rattle.model_check.proofs.places.first_bad.Given as goal

abbrev pub invariant-loop-i : goal.invariant-loop-i
invariant-loop-i l = Each IsConstructive (take l.i l.heaps)
