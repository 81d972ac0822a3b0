-- A trace graph with a leaf more.
use Rattle.std.specs.Prelude.{ℕ, zero, suc, List, [], ◌∷◌, ◌++◌, length}
use Rattle.trace_pairs.specs.Graph.{Node, Edge, Pair}

-- node p has the edge too, last
abbrev pub add_edge : ℕ → Edge → List Node → List Node
add_edge p e [] = []
add_edge zero e (n ∷ nodes) = record { positions = n.positions; edges = n.edges ++ (e ∷ []) } ∷ nodes
add_edge (suc p) e (n ∷ nodes) = n ∷ add_edge p e nodes

-- a new node without edges, which node p has an edge to
abbrev pub with_leaf : List Node → ℕ → List Pair → List ℕ → List Node
with_leaf g p pairs positions = add_edge p (record { target = length g; pairs = pairs }) g
    ++ (record { positions = positions; edges = [] } ∷ [])
