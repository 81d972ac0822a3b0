use Rattle.std.proofs.Common.{◌≡◌, map, drop}
use Rattle.proof_picture.specs.Boxes.{chain, chain_at}
use Rattle.proof_picture.specs.Pieces.{piece_of}
use Rattle.proof_picture.specs.Pictures.{box_of}
use Rattle.proof_picture.proofs.folds.boxes.chain.Given as goal

-- The chain goes on from the node that it has come to.
abbrev pub invariant-loop-more : goal.invariant-loop-more
invariant-loop-more l =
    let all = map box_of l.boxes in
    chain (map box_of (drop l._more-index l.boxes)) all l.entries l.fates.items l.root l.v (map piece_of l.text.items)
    l.at (box_of l.node) ≡ chain_at all l.entries l.fates.items l.root l.v (box_of l.first)
