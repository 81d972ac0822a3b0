-- Reading the members of a list after the first one.
use Rattle.std.specs.Prelude.{List, [], ◌∷◌, map, Result}
use Rattle.std.specs.Global.{Vec}
use Rattle.cyc_lex.specs.Word.{Word}
use Rattle.cyc_grammar.specs.declared.cursor.Refusal.{Refusal}
use Rattle.cyc_grammar.specs.Syntax.{Class, Syntax}
use Rattle.cyc_grammar.specs.Giving.{Gives, with_front}
use Rattle.heap_syntax.specs.declared.keep.Keep.{Keep}
use Rattle.heap_syntax.specs.Keeping.{others_kept}
use Rattle.heap_syntax.specs.Grammar.{more_listed}

-- the first member, and what is kept of the others that are read of the words before, with a word between neighbours
abbrev pub GivesMembers : {X Y : Type 0} → Keep → (X → Y) → X → Class (Unit {0}) → Syntax Y → List Word
    → Result (Vec X) Refusal → List Word → Type 0
GivesMembers k seen first between a words result behind =
    Gives (λ xs. (map seen xs.items, behind)) result
    (with_front (seen first ∷ []) ((others_kept k (more_listed between a)).read words))
