-- Walks through the tree of the beginnings of choices, depth first: which right choices are left.
use Rattle.std.specs.Prelude.{◌≡◌, ◌<◌, ◌+◌, ◌*◌, ◌-◌, ℕ, zero, suc, List, [], ◌∷◌, ◌++◌, length, drop, reverse}
use Rattle.std.specs.Prelude.{slice_get, Bool, false, Option, Some, None, if◌then◌else◌}
use Rattle.std.specs.List.{flat_map}
use Rattle.search_moves.specs.Places.{if_some}
use Rattle.fo_formula.specs.Words.{Word}
use Rattle.fo_search.specs.declared.moves.wanted.Wanted.{Wanted}
use Rattle.fo_search.specs.declared.moves.walking.Walk.{Walk}
use Rattle.fo_search.specs.declared.moves.walking.Sight.{Sight}
use Rattle.fo_search.specs.declared.moves.walking.Sight.TheVariants.{Nothing, Right, Deeper}
use Rattle.fo_search.specs.Choosing.{done_after, does}

-- the values at these places, of which the last one comes first
abbrev pub chosen_by : List Word → List ℕ → List Word
chosen_by values [] = []
chosen_by values (n ∷ places) = chosen_by values places ++ if_some (slice_get values n)

-- the right choices of `count` values that begin with those at some places and one of these
abbrev pub done_with : (List Word → Bool) → List Word → ℕ → List ℕ → List Word → List (List Word)
done_with test values count places vs =
    flat_map (λ v. done_after test (chosen_by values places ++ v ∷ []) (count - suc (length places)) values) vs

-- those that come behind all that begin with the values at these places, of which the last one comes first
abbrev pub done_behind : (List Word → Bool) → List Word → ℕ → List ℕ → List (List Word)
done_behind test values count [] = []
done_behind test values count (n ∷ places) =
    done_with test values count places (drop (suc n) values) ++ done_behind test values count places

-- those that begin so
abbrev pub done_here : (List Word → Bool) → List Word → ℕ → List ℕ → List (List Word)
done_here test values count places = done_after test (chosen_by values places) (count - length places) values

-- the right choices that are left, and those that are when the walk has passed over what begins with the values chosen
abbrev pub choices_left : (List Word → Bool) → List Word → Walk → List (List Word)
choices_left test values w =
    if w.is_over then [] else done_here test values w.count (reverse w.places.items)
    ++ done_behind test values w.count (reverse w.places.items)

abbrev pub choices_behind : (List Word → Bool) → List Word → Walk → List (List Word)
choices_behind test values w = if w.is_over then [] else done_behind test values w.count (reverse w.places.items)

-- the nodes of the tree of k choices among n values, and those that the walk has still to visit
abbrev pub nodes_below : ℕ → ℕ → ℕ
nodes_below n zero = 1
nodes_below n (suc k) = 1 + n * nodes_below n k

abbrev pub nodes_behind : ℕ → ℕ → List ℕ → ℕ
nodes_behind n count [] = 0
nodes_behind n count (p ∷ places) = (n - suc p) * nodes_below n (count - suc (length places))
    + nodes_behind n count places

abbrev pub nodes_left : ℕ → Walk → ℕ
nodes_left n w =
    if w.is_over then 0 else nodes_below n (w.count - length w.places.items) + nodes_behind n w.count
    (reverse w.places.items)

-- what is seen of the right choices that begin with the values chosen: none, one, or more values are to be chosen
abbrev pub IsSeen : Wanted → List Word → Walk → Sight → Type 0
IsSeen wanted values w Nothing = done_here (does wanted) values w.count (reverse w.places.items) ≡ []
IsSeen wanted values w (Right terms) = done_here (does wanted) values w.count (reverse w.places.items) ≡ terms ∷ []
IsSeen wanted values w Deeper = (length w.places.items < w.count) × (0 < length values)

-- the first right choice of those left, behind which the walk stands; none is left where there is none
abbrev pub IsFirstLeft : (List Word → Bool) → List Word → Walk → Option (List Word) → Type 0
IsFirstLeft test values w None = choices_left test values w ≡ []
IsFirstLeft test values w (Some terms) = (w.is_over ≡ false)
    × (choices_left test values w ≡ terms ∷ choices_behind test values w)
