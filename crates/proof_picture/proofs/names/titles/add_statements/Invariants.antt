use Rattle.std.proofs.Common.{◌≡◌, ◌++◌, map, drop}
use Rattle.proof_picture.specs.Pieces.{piece_of}
use Rattle.proof_picture.specs.Naming.{words_of}
use Rattle.proof_picture.specs.Titles.{parts_with}
use Rattle.proof_picture.proofs.names.titles.add_statements.Given as goal

-- The statements so far, and those that are left.
abbrev pub invariant-loop-statement : goal.invariant-loop-statement
invariant-loop-statement l =
    map piece_of l.pieces.items ++ parts_with l.text (map words_of (drop l.statement-index l.statements))
    ≡ map piece_of l.fn.pieces.items ++ parts_with l.text (map words_of l.statements)
