use Rattle.std.proofs.Common.{◌≡◌, ◌++◌, map, drop}
use Rattle.proof_picture.specs.Arrows.{drawn_of}
use Rattle.proof_picture.proofs.folds.boxes.copied_arrows.Given as goal

-- The edges so far, and those that are left.
abbrev pub invariant-loop-arrow : goal.invariant-loop-arrow
invariant-loop-arrow l = map drawn_of l.copy.items ++ map drawn_of (drop l.arrow-index l.arrows) ≡ map drawn_of l.arrows
