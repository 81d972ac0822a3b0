use Rattle.std.proofs.Common.{◌≡◌, ◌++◌, map}
use Rattle.proof_picture.specs.Pieces.{piece_of}
use Rattle.proof_picture.proofs.names.labels.add_all.Given as goal

abbrev pub invariant-loop-piece : goal.invariant-loop-piece
invariant-loop-piece l =
    map piece_of l.pieces.items ++ map piece_of l.piece-iterator.rest.items ≡ map piece_of l.fn.pieces.items
    ++ map piece_of l.fn.more.items
