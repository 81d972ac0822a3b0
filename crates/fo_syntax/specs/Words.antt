-- The words of the formats of first-order logic that other formats have not, and those that are no names.
use Rattle.std.specs.Prelude.{ℕ, List, ◌∷◌, codes}
use Rattle.cyc_grammar.specs.Syntax.{Class}
use Rattle.cyc_grammar.specs.Classes.{keyword, name}
use Rattle.heap_syntax.specs.Words as shared

abbrev pub false_word : Class (Unit {0})
false_word = keyword (codes "false")

-- the words that are no names
abbrev pub reserved : List (List ℕ)
reserved = codes "con" ∷ codes "false" ∷ shared.reserved

abbrev pub free_name : Class (List ℕ)
free_name = name reserved
