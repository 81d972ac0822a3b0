-- The text of a note.
use Rattle.std.specs.Prelude.{◌≡◌, ℕ, true, ◌==◌, List, [], ◌∷◌, ◌++◌, if◌then◌else◌, map, codes, decimal}
use Rattle.std.specs.Str.{chars, encode_utf8_all}
use Rattle.solve_top.specs.declared.explanations.parts.Part.{Part}
use Rattle.solve_top.specs.declared.explanations.parts.Part.TheVariants as parts
use Rattle.solve_top.specs.Notes.{is_one_line}

-- a character as it is written: a line feed, which would end the line, as '?'
abbrev pub shown : ℕ → ℕ
shown c = if c == 10 then 63 else c

abbrev pub shown_text : List ℕ → List ℕ
shown_text s = encode_utf8_all (map shown (chars s))

abbrev pub part_text : Part → List ℕ
part_text (parts.Text s) = shown_text s.now
part_text (parts.Name s) = codes "\"" ++ (shown_text s.now ++ codes "\"")
part_text (parts.Number n) = decimal n

abbrev pub parts_text : List Part → List ℕ
parts_text [] = []
parts_text (p ∷ ps) = part_text p ++ parts_text ps

abbrev pub note_text : List Part → List ℕ
note_text ps = codes "# " ++ (parts_text ps ++ codes "\n")

-- the text fits on one line
pub record IsLine (text : List ℕ) : Type 0 where
  pub characters : List ℕ
  pub one : is_one_line characters ≡ true
  pub spelled : text ≡ encode_utf8_all characters

-- the bytes end with a line feed
abbrev pub EndsLine : List ℕ → Type 0
EndsLine bytes = (front : List ℕ) × (bytes ≡ front ++ codes "\n")
