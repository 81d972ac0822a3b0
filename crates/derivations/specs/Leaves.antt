-- A trace graph without its last leaf.
use Rattle.std.specs.Prelude.{ℕ, zero, suc, List, [], ◌∷◌, ◌++◌}
use Rattle.trace_pairs.specs.Graph.{Node, Edge}
use Rattle.derivations.specs.Stack.{front}

-- the node has the edge too, last
abbrev pub with_edge : Edge → Node → Node
with_edge e n = record { positions = n.positions; edges = n.edges ++ (e ∷ []) }

-- the node without its last edge
abbrev pub without_edge : Node → Node
without_edge n = record { positions = n.positions; edges = front n.edges }

-- node p without its last edge
abbrev pub drop_edge : ℕ → List Node → List Node
drop_edge p [] = []
drop_edge zero (n ∷ nodes) = without_edge n ∷ nodes
drop_edge (suc p) (n ∷ nodes) = n ∷ drop_edge p nodes

-- without the last node, and the last edge of node p
abbrev pub without_leaf : List Node → ℕ → List Node
without_leaf g p = drop_edge p (front g)
