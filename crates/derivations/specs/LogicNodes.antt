-- The nodes of a derivation as the nodes of a proof.
use Rattle.std.specs.Prelude.{ℕ, List, [], ◌∷◌, map, Option, Some, None}
use Rattle.trace_pairs.specs.Graph.{Node, Edge}
use Rattle.logics.specs.declared.node.ProofNode.{ProofNode}
use Rattle.derivations.specs.Tableau.{Made, Tableau}
use Rattle.derivations.specs.Calculus.{judgement_of}

-- the numbers of a rule's premises, to which its edges lead; a link has none
abbrev pub numbers_by : Option ℕ → List Edge → List ℕ
numbers_by None es = map (λ (e : Edge). e.target) es
numbers_by (Some target) es = []

abbrev pub proof_node : {J R : Type 0} → (R → Option ℕ) → Node → Made J R → ProofNode J R
proof_node target traces m =
    record { judgement = judgement_of m; reason = m.reason; premises = numbers_by (target m.reason) traces.edges }

-- the nodes, with their edges in a trace graph
abbrev pub nodes_with : {J R : Type 0} → (R → Option ℕ) → List Node → List (Made J R) → List (ProofNode J R)
nodes_with target [] ms = []
nodes_with target (n ∷ ns) [] = []
nodes_with target (n ∷ ns) (m ∷ ms) = proof_node target n m ∷ nodes_with target ns ms

-- the nodes of a derivation without open goals, where this is the node that a link names
abbrev pub proof_nodes : {J R : Type 0} → (R → Option ℕ) → Tableau J R → List (ProofNode J R)
proof_nodes target b = nodes_with target b.graph b.nodes
