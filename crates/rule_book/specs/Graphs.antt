-- The nodes of a proof in separation logic: their faults, and their trace graph.
use Rattle.std.specs.Prelude.{◌≡◌, ◌≤◌, ℕ, length, List, Option, Some, slice_get}
use Rattle.cyc_basics.specs.declared.limits.Limits.{Limits}
use Rattle.cyc_basics.specs.declared.limits.TheConstants.{MOST_SPATIAL}
use Rattle.heap_formula.specs.declared.commands.Command.{Command}
use Rattle.heap_formula.specs.declared.judgements.Judgement.{Judgement}
use Rattle.heap_formula.specs.declared.proof_rules.Reason.{Reason}
use Rattle.heap_formula.specs.declared.proof_rules.RuleFault.{RuleFault}
use Rattle.heap_formula.specs.Definitions.{Definition}
use Rattle.heap_formula.specs.Judgements.{antecedent}
use Rattle.rule_table.specs.Judgements.{IsReadable}
use Rattle.trace_pairs.specs.Graph.{Node as GraphNode, Edge}
use Rattle.logics.specs.declared.node.ProofNode.{ProofNode}
use Rattle.logics.specs.Faults.{node_fault as fault_of_node, AreRight as AllAreRight}
use Rattle.logics.specs.Graphs.{edges_of as edges_of_node, graph_node as node_of_graph, graph_of as graph_of_nodes}
use Rattle.rule_book.specs.SeparationLogic.{separation_logic}

-- a node of a proof: what it claims, why, and the numbers of its premises
abbrev pub Node : Type 0
Node = ProofNode Judgement Reason

-- the first fault of node v, none where it is right
abbrev pub node_fault : Limits → List Definition → List Command → List Node → ℕ → Node → Option RuleFault
node_fault most ds lines nodes v node = fault_of_node (separation_logic most ds lines) nodes v node

-- an edge to each premise, or to the companion
abbrev pub edges_of : Limits → List Definition → List Command → List Node → Node → List Edge
edges_of most ds lines nodes node = edges_of_node (separation_logic most ds lines) nodes node

-- a node with the places of its predicate atoms, and its edges
abbrev pub graph_node : Limits → List Definition → List Command → List Node → Node → GraphNode
graph_node most ds lines nodes node = node_of_graph (separation_logic most ds lines) nodes node

-- the trace graph of a file
abbrev pub graph_of : Limits → List Definition → List Command → List Node → List GraphNode
graph_of most ds lines nodes = graph_of_nodes (separation_logic most ds lines) nodes

-- no node has a fault
abbrev pub AreRight : Limits → List Definition → List Command → List Node → Type 0
AreRight most ds lines nodes = AllAreRight (separation_logic most ds lines) nodes

-- no existential stands in an antecedent, nor in a link's substitution
abbrev pub AreReadable : List Node → Type 0
AreReadable nodes = (v : ℕ) (node : Node) → slice_get nodes v ≡ Some node → IsReadable node.judgement node.reason

-- the antecedents have no more spatial atoms than any version of the formats allows
abbrev pub HasSmallHeaps : List Node → Type 0
HasSmallHeaps nodes = (v : ℕ) (node : Node) → slice_get nodes v ≡ Some node
    → length (antecedent node.judgement).spatial ≤ MOST_SPATIAL
