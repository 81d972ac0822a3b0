use Rattle.std.proofs.Common.{◌≡◌, map, drop}
use Rattle.proof_picture.specs.Fates.{fault_from}
use Rattle.proof_picture.specs.Pictures.{box_of}
use Rattle.proof_picture.proofs.folds.fates.place_of_fault.Given as goal

-- No box so far has a fault.
abbrev pub invariant-loop-v : goal.invariant-loop-v
invariant-loop-v l = fault_from l.v (map box_of (drop l.v l.boxes)) ≡ fault_from 0 (map box_of l.boxes)
