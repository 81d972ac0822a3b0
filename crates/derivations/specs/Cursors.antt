-- Lists that are told member by member.
use Rattle.std.specs.Prelude.{◌≡◌, List, [], ◌∷◌, Option, Some, None}

-- the next member of a list was told, behind which the new one is left; none where the list has ended
abbrev pub IsNextOf : {X : Type 0} → List X → List X → Option X → Type 0
IsNextOf old new None = (old ≡ []) × (new ≡ [])
IsNextOf old new (Some x) = old ≡ x ∷ new
