use Rattle.std.proofs.Common.{◌≡◌, ◌++◌, map, drop}
use Rattle.proof_picture.specs.Texts.{judgement_in}
use Rattle.proof_picture.specs.Pieces.{piece_of}
use Rattle.proof_picture.proofs.folds.texts.add_judgement.Given as goal

-- The text so far, and what is left of the judgement.
abbrev pub invariant-loop-piece : goal.invariant-loop-piece
invariant-loop-piece l =
    map piece_of l.to.items ++ judgement_in (map piece_of (drop l.piece-index l.pieces)) ≡ map piece_of l.fn.to.items
    ++ judgement_in (map piece_of l.pieces)
