use Rattle.std.proofs.Common.{◌≡◌, map, drop}
use Rattle.proof_picture.specs.Entries.{enter_boxes}
use Rattle.proof_picture.specs.Pictures.{box_of}
use Rattle.proof_picture.proofs.folds.entries.enter_all_boxes.Given as goal

-- The entries so far, with the boxes that are left.
abbrev pub invariant-loop-node : goal.invariant-loop-node
invariant-loop-node l = enter_boxes l.entries (map box_of (drop l.node-index l.boxes))
    ≡ enter_boxes l.fn.entries (map box_of l.boxes)
