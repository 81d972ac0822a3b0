-- What stands in the picture of a file in the words of its problem.
use Rattle.std.specs.Prelude.{◌≡◌, List, length, map}
use Rattle.proof_check.specs.Verdicts.{Verdict}
use Rattle.proof_file.specs.declared.file.ProofFile.{ProofFile}
use Rattle.proof_picture.specs.declared.picture.Picture.{Picture}
use Rattle.proof_picture.specs.Arrows.{DrawnRow}
use Rattle.proof_picture.specs.Carried.{table}
use Rattle.proof_picture.specs.Pieces.{LabelPart}
use Rattle.proof_picture.specs.Pictures.{Box, box_of, boxes_from, drawn_rows, is_large}
use Rattle.proof_picture.specs.Naming.{Called}
use Rattle.proof_picture.specs.Kept.{kept_names}
use Rattle.proof_picture.specs.NamedLabels.{named_labels}

-- the texts of all nodes, whose edges these are
abbrev pub labels_in : Called → ProofFile → List DrawnRow → List (List LabelPart)
labels_in called f rows = named_labels called f (kept_names (length called.names) f rows) (table 0 rows)

-- the boxes of all nodes: as without a problem, but with its names where they keep their meaning, and its lines
abbrev pub named_boxes : Called → ProofFile → Verdict → List Box
named_boxes called f verdict = let rows = drawn_rows f verdict in boxes_from verdict 0 (labels_in called f rows) rows

pub record IsNamedPicture (called : Called) (f : ProofFile) (verdict : Verdict) (p : Picture) : Type 0 where
  pub boxes : map box_of p.boxes.items ≡ named_boxes called f verdict
  pub is_large : p.is_large ≡ is_large verdict
