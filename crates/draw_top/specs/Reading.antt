-- What DOT reads of a quoted string, and of the text of a label.
use Rattle.std.specs.Prelude.{◌≢◌, ℕ, Bool, true, false, List, [], ◌∷◌, nat_eq, if◌then◌else◌, Option, Some, None}

-- the string begins with this byte
abbrev pub with_front : ℕ → Option (List ℕ × List ℕ) → Option (List ℕ × List ℕ)
with_front b None = None
with_front b (Some r) = Some (b ∷ r.0, r.1)

-- the string that ends at the first quote without a backslash before it, and what stands after that quote; the first
-- argument says that a backslash was just passed
abbrev pub read_string : Bool → List ℕ → Option (List ℕ × List ℕ)
read_string escapes [] = None
read_string true (b ∷ bs) = with_front b (read_string false bs)
read_string false (b ∷ bs) = if nat_eq b 34 then Some ([], bs) else
    (if nat_eq b 92 then read_string true bs else with_front b (read_string false bs))

-- the string that stands quoted at the front, and what stands after it
abbrev pub read_quoted : List ℕ → Option (List ℕ × List ℕ)
read_quoted [] = None
read_quoted (b ∷ bs) = if nat_eq b 34 then read_string false bs else None

-- where a reader of a label is: in its text, after the sign that begins an entity, or after the entity's first letter
pub data Spot : Type 0 where
  InText : Spot
  AtEntity : Spot
  InEntity : Spot

-- what the entity that begins with this letter says: lt, gt or amp
abbrev pub meant : ℕ → ℕ
meant b = if nat_eq b 108 then 60 else (if nat_eq b 103 then 62 else 38)

abbrev pub read_from : Spot → List ℕ → List ℕ
read_from spot [] = []
read_from InText (b ∷ bs) = if nat_eq b 38 then read_from AtEntity bs else b ∷ read_from InText bs
read_from AtEntity (b ∷ bs) = meant b ∷ read_from InEntity bs
read_from InEntity (b ∷ bs) = if nat_eq b 59 then read_from InText bs else read_from InEntity bs

abbrev pub read_marked : List ℕ → List ℕ
read_marked bs = read_from InText bs

-- no tag begins or ends in the text
abbrev pub HasNoTag : List ℕ → Type 0
HasNoTag [] = Unit {0}
HasNoTag (b ∷ bs) = (b ≢ 60) × (b ≢ 62) × HasNoTag bs
