-- How many boxes there are.
use Rattle.std.proofs.Common.{◌≡◌, ◌≤◌, ℕ, suc, Bool, List, [], ◌∷◌, length, map, refl, ap, arith}
use Rattle.std.proofs.lemmas.List.{length-map}
use Rattle.proof_check.specs.Verdicts.{Verdict}
use Rattle.proof_file.specs.declared.file.ProofFile.{ProofFile}
use Rattle.proof_file.specs.FileNodes.{FileNode}
use Rattle.proof_picture.specs.Pieces.{LabelPart}
use Rattle.proof_picture.specs.Labels.{labels_with}
use Rattle.proof_picture.specs.declared.picture.Picture.{Picture}
use Rattle.proof_picture.specs.Red.{has_step, refused_steps}
use Rattle.proof_picture.specs.Arrows.{DrawnRow, rows_from}
use Rattle.proof_picture.specs.Carried.{table}
use Rattle.proof_picture.specs.Pictures.{box_of, boxes_from, drawn_rows, IsPicture}

boxes_few : (verdict : Verdict) (v : ℕ) (ls : List (List LabelPart)) (rs : List DrawnRow)
    → length (boxes_from verdict v ls rs) ≤ length rs
boxes_few verdict v ls [] = omega arith
boxes_few verdict v [] (r ∷ rs) = omega arith
boxes_few verdict v (l ∷ ls) (r ∷ rs) = let h = boxes_few verdict (suc v) ls rs in omega arith

rows_length : (f : ProofFile) (refused : ℕ → ℕ → Bool) (v : ℕ) (ns : List FileNode)
    → length (rows_from f refused v ns) ≡ length ns
rows_length f refused v [] = refl
rows_length f refused v (n ∷ ns) = ap suc (rows_length f refused (suc v) ns)

-- a picture has no more boxes than a file may have nodes, whatever its labels are
pub boxes_with_few : (f : ProofFile) (verdict : Verdict) (p : Picture) (labels : List (List LabelPart))
    → map box_of p.boxes.items ≡ boxes_from verdict 0 labels (drawn_rows f verdict) → length p.boxes.items ≤ 20000
boxes_with_few f verdict p labels is =
    let rows = drawn_rows f verdict in
    let few = boxes_few verdict 0 labels rows in
    let long : length rows ≡ length f.nodes = rows_length f (has_step (refused_steps verdict)) 0 f.nodes in
    let nodes = f.few in
    omega (arith, length-map p.boxes.items box_of, ap length is, few, long, nodes)

pub picture_few : (f : ProofFile) (verdict : Verdict) (p : Picture) → IsPicture f verdict p
    → length p.boxes.items ≤ 20000
picture_few f verdict p is = boxes_with_few f verdict p (labels_with f (table 0 (drawn_rows f verdict))) is.boxes
