use Rattle.std.proofs.Common.{◌≡◌, ◌++◌, map}
use Rattle.draw_top.specs.Graphs.{run_of}
use Rattle.proof_picture.specs.Pieces.{piece_of, pieces_of}
use Rattle.draw_top.specs.Drawings.{part_run}
use Rattle.draw_top.proofs.nodes.add_pieces.Given as goal

-- The runs so far, and those of the pieces that are left.
abbrev pub invariant-loop-piece : goal.invariant-loop-piece
invariant-loop-piece l =
    map run_of l.runs.items ++ map part_run (map piece_of l.piece-iterator.rest.items) ≡ map run_of l.fn.runs.items
    ++ map part_run (pieces_of l.fn.label)
