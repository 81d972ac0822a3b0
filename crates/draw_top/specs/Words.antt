-- What the words ask for.
use Rattle.std.specs.Prelude.{ℕ, List, [], ◌∷◌, codes, Option, Some, None, if◌then◌else◌}
use Rattle.std.specs.Str.{bytes_eq}
use Rattle.draw_top.specs.declared.words.View.{View}
use Rattle.draw_top.specs.declared.words.View.TheVariants.{Whole, Folded}

abbrev pub view_of : List (List ℕ) → Option View
view_of [] = Some Whole
view_of (word ∷ []) = if bytes_eq word (codes "--fold") then Some Folded else None
view_of (word ∷ second ∷ others) = None
