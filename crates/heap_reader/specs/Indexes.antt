-- What the index of a list of predicates holds.
use Rattle.std.specs.Prelude.{◌≡◌, ℕ, suc, List, [], ◌∷◌, Option, Some, None, if◌then◌else◌}
use Rattle.std.specs.Borrow.{Bor}
use Rattle.std.specs.Option.{option_map}
use Rattle.std.specs.Str.{bytes_eq}
use Rattle.std.specs.Map.{lookup}
use Rattle.heap_reader.specs.Trees.{Heading}

-- the number of the first predicate with the name
abbrev pub place_in : List Heading → List ℕ → Option ℕ
place_in [] name = None
place_in (h ∷ hs) name = if bytes_eq h.name name then Some 0 else option_map (λ i. suc i) (place_in hs name)

-- each name leads to the first predicate that has it
abbrev pub IsIndex : List Heading → List (Bor (List ℕ) × ℕ) → Type 0
IsIndex hs entries = (name : List ℕ) → lookup (λ k. bytes_eq name k.now) entries ≡ place_in hs name
