use Rattle.std.proofs.Common.{◌≡◌, map, drop}
use Rattle.proof_picture.specs.Hidden.{hidden_from, hidden_in}
use Rattle.proof_picture.specs.Pictures.{box_of}
use Rattle.proof_picture.proofs.folds.hidden.hidden_nodes.Given as goal

-- The flags so far, with the nodes that are left.
abbrev pub invariant-loop-v : goal.invariant-loop-v
invariant-loop-v l = hidden_from l.flags.items l.fates.items l.v (map box_of (drop l.v l.boxes))
    ≡ hidden_in l.fates.items (map box_of l.boxes)
