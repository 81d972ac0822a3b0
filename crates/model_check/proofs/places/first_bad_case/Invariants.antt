use Rattle.std.proofs.Common.{take}
use Rattle.model_check.specs.Constructive.{AreConstructive}
use Rattle.model_check.proofs.places.first_bad_case.Given as goal

abbrev pub invariant-loop-p : goal.invariant-loop-p
invariant-loop-p l = AreConstructive (take l.p l.defs)
