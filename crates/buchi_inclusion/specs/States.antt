-- All states of the product that there can be: each node with each list of entries whose sets are of the node's
-- positions.
use Rattle.std.specs.Prelude.{ℕ, zero, suc, ◌+◌, List, [], ◌∷◌, ◌++◌, map, length, Option, Some, None}
use Rattle.trace_pairs.specs.Graph.{Node}
use Rattle.buchi_core.specs.Forest.{Entry}
use Rattle.buchi_inclusion.specs.Product.{State}

-- f of each element of the one and each of the other
abbrev pub each_with : {X Y Z : Type 0} → (X → Y → Z) → List X → List Y → List Z
each_with f [] ys = []
each_with f (x ∷ xs) ys = map (f x) ys ++ each_with f xs ys

-- all lists of at most n of the elements
abbrev pub all_lists : {X : Type 0} → ℕ → List X → List (List X)
all_lists zero xs = [] ∷ []
all_lists (suc n) xs = [] ∷ each_with (λ y ys. y ∷ ys) xs (all_lists n xs)

-- all filters of a list
abbrev pub subs : List ℕ → List (List ℕ)
subs [] = [] ∷ []
subs (q ∷ qs) = map (λ s. q ∷ s) (subs qs) ++ subs qs

-- the parents below n
abbrev pub parents_from : ℕ → ℕ → List (Option ℕ)
parents_from i zero = None ∷ []
parents_from i (suc n) = Some i ∷ parents_from (suc i) n

abbrev pub entry : Option ℕ → List ℕ → Entry
entry o s = record { parent = o; set = s }

abbrev pub all_entries : List ℕ → List Entry
all_entries positions = each_with entry (parents_from 0 (length positions)) (subs positions)

abbrev pub all_forests : List ℕ → List (List Entry)
all_forests positions = all_lists (length positions) (all_entries positions)

abbrev pub state : ℕ → List Entry → State
state v f = record { node = v; forest = f }

-- all states of the nodes from v on
abbrev pub states_from : ℕ → List Node → List State
states_from v [] = []
states_from v (n ∷ nodes) = map (state v) (all_forests n.positions) ++ states_from (suc v) nodes
