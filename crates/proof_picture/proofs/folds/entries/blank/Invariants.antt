use Rattle.std.proofs.Common.{◌≡◌, ◌++◌, map, drop}
use Rattle.proof_picture.specs.Entries.{no_entries}
use Rattle.proof_picture.specs.Pictures.{box_of}
use Rattle.proof_picture.proofs.folds.entries.blank.Given as goal

-- The entries so far, and those of the boxes that are left.
abbrev pub invariant-loop-node : goal.invariant-loop-node
invariant-loop-node l = l.entries.items ++ no_entries (map box_of (drop l._node-index l.boxes))
    ≡ no_entries (map box_of l.boxes)
