use Rattle.std.proofs.Common.{◌≡◌, ◌++◌, map, length}
use Rattle.proof_picture.specs.Pieces.{pieces_of}
use Rattle.proof_picture.specs.Arrows.{row_of}
use Rattle.proof_picture.specs.Pictures.{box_of, boxes_from}
use Rattle.proof_picture.proofs.picture.boxes.Given as goal

-- The boxes so far, and those of the nodes that are left.
abbrev pub invariant-loop-row : goal.invariant-loop-row
invariant-loop-row l =
    map box_of l.boxes.items ++ boxes_from l.verdict (length l.boxes.items) (map pieces_of l.labels.items)
    (map row_of l.row-iterator.rest.items) ≡ boxes_from l.verdict 0 (map pieces_of l.fn.labels.items)
    (map row_of l.fn.rows.items)
