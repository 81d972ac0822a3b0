-- What a search in depth has still to do. Each of its turns leaves less.
use Rattle.std.specs.Prelude.{ℕ, ◌+◌, ◌*◌, ◌-◌, zero, suc, Bool, true, false, List, [], ◌∷◌, length, Option, Some, None}
use Rattle.std.specs.Prelude.{slice_get, Vec}
use Rattle.std.specs.declared.alloc.Global.{Global}
use Rattle.buchi_inclusion.specs.declared.product.Transition.{Transition}
use Rattle.buchi_inclusion.specs.declared.ranks.Search.{Search}

-- how many of the marks are not set
abbrev pub unmarked : List Bool → ℕ
unmarked [] = 0
unmarked (true ∷ marks) = unmarked marks
unmarked (false ∷ marks) = suc (unmarked marks)

-- the places on the stack, and twice those that are not marked: a place is marked when it comes on the stack
abbrev pub places_left : List Bool → List ℕ → ℕ
places_left marks stack = 2 * unmarked marks + length stack

-- how many edges a row has, none where there is no row
abbrev pub edges_in : Option (Vec Transition Global) → ℕ
edges_in None = 0
edges_in (Some row) = length row.items

-- how many edges a state has
abbrev pub edges_at : List (Vec Transition Global) → ℕ → ℕ
edges_at rows state = edges_in (slice_get rows state)

-- the states without a number, each with its edges
abbrev pub unfound_work : List (Vec Transition Global) → List ℕ → ℕ
unfound_work rows [] = 0
unfound_work [] (zero ∷ numbers) = suc (unfound_work [] numbers)
unfound_work [] (suc n ∷ numbers) = unfound_work [] numbers
unfound_work (row ∷ rows) (zero ∷ numbers) = suc (length row.items) + unfound_work rows numbers
unfound_work (row ∷ rows) (suc n ∷ numbers) = unfound_work rows numbers

-- the states on the way, each with its edges from the next one on
abbrev pub way_work : List (Vec Transition Global) → List (ℕ × ℕ) → ℕ
way_work rows [] = 0
way_work rows ((state, edge) ∷ way) = suc (edges_at rows state - edge) + way_work rows way

-- all that is left of a search over these rows
abbrev pub work_left : List (Vec Transition Global) → Search → ℕ
work_left rows search = unfound_work rows search.numbers.items + way_work rows search.way.items
