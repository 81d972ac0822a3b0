-- The nodes of a proof as a trace graph.
use Rattle.std.specs.Prelude.{ℕ, List, [], ◌∷◌, map, Option, Some, None, Result, Ok, Err, slice_get}
use Rattle.trace_pairs.specs.Graph.{Node as TraceNode, Edge, Pair}
use Rattle.logics.specs.declared.premises.Subgoal.{Subgoal}
use Rattle.logics.specs.declared.node.ProofNode.{ProofNode}
use Rattle.logics.specs.Logics.{LogicValue}

-- an edge to each premise's node, in order
abbrev pub edges_to : {J : Type 0} → List (Subgoal J) → List ℕ → List Edge
edges_to [] us = []
edges_to (p ∷ ps) [] = []
edges_to (p ∷ ps) (u ∷ us) = record { target = u; pairs = p.pairs } ∷ edges_to ps us

abbrev pub rule_edges : {J F : Type 0} → List ℕ → Result (List (Subgoal J)) F → List Edge
rule_edges us (Err f) = []
rule_edges us (Ok ps) = edges_to ps us

abbrev pub link_edges : {F : Type 0} → ℕ → Result (List Pair) F → List Edge
link_edges target (Err f) = []
link_edges target (Ok pairs) = record { target = target; pairs = pairs } ∷ []

-- the edge of a link to this node
abbrev pub companion_edges : {J R F : Type 0} → LogicValue J R F → J → R → ℕ → Option (ProofNode J R) → List Edge
companion_edges c bud r target None = []
companion_edges c bud r target (Some node) = link_edges target (c.pairs_back bud r node.judgement)

-- by the node that the reason names, if it is a link
abbrev pub reason_edges : {J R F : Type 0} → LogicValue J R F → List (ProofNode J R) → List ℕ → J → R → Option ℕ
    → List Edge
reason_edges c nodes us j r None = rule_edges us (c.premises j r)
reason_edges c nodes us j r (Some target) = companion_edges c j r target (slice_get nodes target)

-- the edges of a node: one to each premise, or the one to its companion
abbrev pub edges_of : {J R F : Type 0} → LogicValue J R F → List (ProofNode J R) → ProofNode J R → List Edge
edges_of c nodes node = reason_edges c nodes node.premises node.judgement node.reason (c.target node.reason)

abbrev pub graph_node : {J R F : Type 0} → LogicValue J R F → List (ProofNode J R) → ProofNode J R → TraceNode
graph_node c nodes node = record { positions = c.positions node.judgement; edges = edges_of c nodes node }

-- the trace graph of a proof
abbrev pub graph_of : {J R F : Type 0} → LogicValue J R F → List (ProofNode J R) → List TraceNode
graph_of c nodes = map (graph_node c nodes) nodes
