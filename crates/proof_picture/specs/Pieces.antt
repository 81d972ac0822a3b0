-- The text of a box without where it lies in memory.
use Rattle.std.specs.Prelude.{ℕ, Bool, List, map}
use Rattle.proof_picture.specs.declared.piece.Piece.{Piece}
use Rattle.proof_picture.specs.declared.piece.Piece.TheVariants as pieces
use Rattle.proof_picture.specs.declared.piece.Label.{Label}

pub data LabelPart : Type 0 where
  Words : Bool → List ℕ → LabelPart
  Space : LabelPart
  Line : LabelPart

abbrev pub piece_of : Piece → LabelPart
piece_of (pieces.Words bold text) = Words bold text.items
piece_of pieces.Space = Space
piece_of pieces.Line = Line

abbrev pub pieces_of : Label → List LabelPart
pieces_of label = map piece_of label.pieces.items
