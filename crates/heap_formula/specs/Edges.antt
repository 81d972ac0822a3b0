-- The edges of a proof's nodes.
use Rattle.std.specs.Prelude.{ℕ, List, [], ◌∷◌}
use Rattle.heap_formula.specs.declared.judgements.NodeEdge.{NodeEdge}
use Rattle.heap_formula.specs.declared.judgements.Pair.{Pair}
use Rattle.heap_formula.specs.Judgements.{Follows}
use Rattle.heap_formula.specs.Meaning.{Stages}

-- an edge to the node of each premise, in order, with the premise's pairs
abbrev pub edges_along : {P : Type 0} → (P → List Pair) → List P → List ℕ → List NodeEdge
edges_along pairs [] us = []
edges_along pairs (p ∷ ps) [] = []
edges_along pairs (p ∷ ps) (u ∷ us) = record { target = u; pairs = pairs p } ∷ edges_along pairs ps us

-- the edge's target holds at all stages that follow these
abbrev pub EdgeHolds : (ℕ → Stages → Type 0) → Stages → NodeEdge → Type 0
EdgeHolds Holds stages edge = (below : Stages) → Follows edge.pairs stages below → Holds edge.target below
