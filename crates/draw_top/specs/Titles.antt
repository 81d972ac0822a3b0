-- A picture with a title.
use Rattle.std.specs.Prelude.{Bool, true, false, List, [], ◌∷◌, ◌++◌, map, codes}
use Rattle.draw_top.specs.Drawings.{note_text, part_run, set_to}
use Rattle.draw_top.specs.Folds.{label_set}
use Rattle.draw_top.specs.Graphs.{Plain, LabelRun, Text, Break, Set, Drawing}
use Rattle.proof_picture.specs.Pieces.{LabelPart}

-- that no verdict is known
abbrev pub note_runs : Bool → List LabelRun
note_runs true = Text Plain note_text ∷ Break ∷ []
note_runs false = []

-- the title stands above the picture, at the left
abbrev pub titled_sets : List LabelPart → Bool → List Set
titled_sets title is_large =
    set_to (codes "ordering") (codes "out") ∷ set_to (codes "fontname") (codes "monospace")
    ∷ set_to (codes "fontsize") (codes "11") ∷ set_to (codes "labelloc") (codes "t")
    ∷ set_to (codes "labeljust") (codes "l") ∷ label_set (map part_run title ++ note_runs is_large) ∷ []

abbrev pub titled : List LabelPart → Bool → Drawing → Drawing
titled title is_large d = record d { whole = titled_sets title is_large }
