use Rattle.std.proofs.Common.{◌≡◌, ◌-◌, length, map, drop}
use Rattle.proof_picture.specs.Fates.{fates_from}
use Rattle.proof_picture.specs.Pictures.{box_of}
use Rattle.proof_picture.proofs.folds.fates.fates_of.Given as goal

-- The fates of the last boxes.
abbrev pub invariant-loop-done : goal.invariant-loop-done
invariant-loop-done l =
    let v = length l.boxes - l.done in
    l.behind.items ≡ fates_from l.entries l.place v (map box_of (drop v l.boxes))
