-- The title of a picture: the statements of the problem that was proved.
use Rattle.std.specs.Prelude.{ℕ, Bool, false, ◌&&◌, List, [], ◌∷◌, ◌++◌, codes, filter, Some, if◌then◌else◌}
use Rattle.std.specs.Str.{bytes_eq}
use Rattle.std.specs.List.{slice_split}
use Rattle.cyc_lex.specs.Word.{Word, is_name, is_symbol}
use Rattle.proof_picture.specs.Pieces.{LabelPart}
use Rattle.proof_picture.specs.NamedLabels.{line_part}

abbrev pub ends_statement : Word → Bool
ends_statement w = is_symbol w.kind && bytes_eq w.text (codes ";")

-- the statements of a text with these words, without the `;` behind each
abbrev pub statements_in : List Word → List (List Word)
statements_in ws = slice_split ends_statement ws

-- the statement begins with this word
abbrev pub begins : List ℕ → List Word → Bool
begins text [] = false
begins text (w ∷ ws) = is_name w.kind && bytes_eq w.text text

-- the lines of the program, in order
abbrev pub lines_in : List (List Word) → List (List Word)
lines_in statements = filter (begins (codes "line")) statements

-- the statements that begin with this word, each in lines of its own
abbrev pub parts_with : List ℕ → List (List Word) → List LabelPart
parts_with text [] = []
parts_with text (s ∷ statements) =
    if begins text s then line_part (Some s) ++ parts_with text statements else parts_with text statements

-- the goal as it was written, the definitions, and the program
abbrev pub title : List (List Word) → List LabelPart
title statements =
    parts_with (codes "goal") statements ++ parts_with (codes "pred") statements ++ parts_with (codes "line") statements
