use Rattle.std.proofs.Common.{◌≡◌, map, drop}
use Rattle.proof_picture.specs.Folding.{fold_nodes, unfolded}
use Rattle.proof_picture.specs.Pictures.{box_of}
use Rattle.proof_picture.proofs.folds.folding.fold_all.Given as goal

-- The nodes so far, and those that are left.
abbrev pub invariant-loop-v : goal.invariant-loop-v
invariant-loop-v l =
    fold_nodes l.folder (map box_of l.boxes) l.found l.v (map box_of (drop l.v l.boxes))
    ≡ fold_nodes unfolded (map box_of l.boxes) l.found 0 (map box_of l.boxes)
