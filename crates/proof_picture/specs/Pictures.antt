-- What stands in the picture of a file about which a verdict is known.
use Rattle.std.specs.Prelude.{◌≡◌, ℕ, suc, Bool, true, false, nat_eq, List, [], ◌∷◌, map, Option, Some, None}
use Rattle.std.specs.Prelude.{if◌then◌else◌}
use Rattle.heap_formula.specs.declared.proof_rules.RuleFault.{RuleFault}
use Rattle.proof_check.specs.Verdicts.{Verdict}
use Rattle.logics.specs.declared.verdict.Verdict.TheVariants.{Accepted, RuleRefused, PathRefused, TooManyStates}
use Rattle.proof_file.specs.declared.file.ProofFile.{ProofFile}
use Rattle.proof_picture.specs.Labels.{labels_with}
use Rattle.proof_picture.specs.Pieces.{LabelPart, pieces_of}
use Rattle.proof_picture.specs.declared.picture.NodeBox.{NodeBox}
use Rattle.proof_picture.specs.declared.picture.Picture.{Picture}
use Rattle.proof_picture.specs.Red.{refused_steps, has_step}
use Rattle.proof_picture.specs.Arrows.{Drawn, DrawnRow, drawn_of, rows_of}
use Rattle.proof_picture.specs.Carried.{table}

-- a node: its text in lines, its fault where the verdict names it, and its edges
pub record Box : Type 0 where
  pub label : List LabelPart
  pub fault : Option RuleFault
  pub arrows : List Drawn

abbrev pub box_of : NodeBox → Box
box_of b = record { label = pieces_of b.label; fault = b.fault; arrows = map drawn_of b.arrows.items }

-- the fault of node v, if the verdict names this node
abbrev pub fault_at : Verdict → ℕ → Option RuleFault
fault_at Accepted v = None
fault_at (RuleRefused u fault) v = if nat_eq u v then Some fault else None
fault_at (PathRefused lasso) v = None
fault_at TooManyStates v = None

abbrev pub is_large : Verdict → Bool
is_large Accepted = false
is_large (RuleRefused u fault) = false
is_large (PathRefused lasso) = false
is_large TooManyStates = true

-- the boxes of the nodes from v on
abbrev pub boxes_from : Verdict → ℕ → List (List LabelPart) → List DrawnRow → List Box
boxes_from verdict v labels [] = []
boxes_from verdict v [] (row ∷ rows) = []
boxes_from verdict v (label ∷ labels) (row ∷ rows) =
    record { label = label; fault = fault_at verdict v; arrows = row.arrows } ∷ boxes_from verdict (suc v) labels rows

-- the edges of all nodes, those that the verdict refuses among them
abbrev pub drawn_rows : ProofFile → Verdict → List DrawnRow
drawn_rows f verdict = rows_of f (has_step (refused_steps verdict))

-- the boxes of all nodes: of each the judgement and the reason as the file has them, with the atoms that stand out
abbrev pub boxes_of : ProofFile → Verdict → List Box
boxes_of f verdict =
    let rows = drawn_rows f verdict in
    boxes_from verdict 0 (labels_with f (table 0 rows)) rows

pub record IsPicture (f : ProofFile) (verdict : Verdict) (p : Picture) : Type 0 where
  pub boxes : map box_of p.boxes.items ≡ boxes_of f verdict
  pub is_large : p.is_large ≡ is_large verdict
