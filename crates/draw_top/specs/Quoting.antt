-- Strings and the text of labels in DOT.
use Rattle.std.specs.Prelude.{ℕ, List, [], ◌∷◌, ◌++◌, nat_eq, codes, if◌then◌else◌}

-- in a quoted string a quote and a backslash have a backslash before them
abbrev pub escape : ℕ → List ℕ
escape b = if nat_eq b 34 then codes "\\\"" else (if nat_eq b 92 then codes "\\\\" else b ∷ [])

abbrev pub escaped : List ℕ → List ℕ
escaped [] = []
escaped (b ∷ bs) = escape b ++ escaped bs

abbrev pub quoted : List ℕ → List ℕ
quoted bs = codes "\"" ++ escaped bs ++ codes "\""

-- in a label, which is like HTML, the signs of tags and entities stand as entities
abbrev pub mark_up : ℕ → List ℕ
mark_up b =
    if nat_eq b 38 then codes "&amp;" else (if nat_eq b 60 then codes "&lt;" else
    (if nat_eq b 62 then codes "&gt;" else b ∷ []))

abbrev pub marked_up : List ℕ → List ℕ
marked_up [] = []
marked_up (b ∷ bs) = mark_up b ++ marked_up bs
