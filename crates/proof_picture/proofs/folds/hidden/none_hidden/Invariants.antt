use Rattle.std.proofs.Common.{◌≡◌, ◌++◌, map, drop}
use Rattle.proof_picture.specs.Hidden.{none_hidden}
use Rattle.proof_picture.specs.Pictures.{box_of}
use Rattle.proof_picture.proofs.folds.hidden.none_hidden.Given as goal

-- The flags so far, and those of the boxes that are left.
abbrev pub invariant-loop-node : goal.invariant-loop-node
invariant-loop-node l = l.flags.items ++ none_hidden (map box_of (drop l._node-index l.boxes))
    ≡ none_hidden (map box_of l.boxes)
