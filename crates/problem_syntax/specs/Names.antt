-- Names, and their numbers by first occurrence.
use Rattle.std.specs.Prelude.{ℕ, Bool, not, ◌&&◌, List, [], ◌∷◌, filter}
use Rattle.std.proofs.Math.Bool.{beq}
use Rattle.std.specs.Str.{bytes_eq}
use Rattle.std.specs.List.{list_any, position_or_len}

-- a name, and whether a prime stands after it
pub record Name : Type 0 where
  pub text : List ℕ
  pub primed : Bool

abbrev pub same : Name → Name → Bool
same a b = bytes_eq a.text b.text && beq a.primed b.primed

-- the name stands in the list
abbrev pub has : List Name → Name → Bool
has ns n = list_any (same n) ns

-- each name once, at its first occurrence
abbrev pub firsts : List Name → List Name
firsts [] = []
firsts (n ∷ ns) = n ∷ filter (λ m. not (same n m)) (firsts ns)

-- the place of the name in the list, from 0; the length where it is not there
abbrev pub place_of : List Name → Name → ℕ
place_of ns n = position_or_len (same n) ns
