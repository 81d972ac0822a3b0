-- What the test of a node answers, and that of all nodes.
use Rattle.std.specs.Prelude.{ℕ, ◌≡◌, List, Option, Some, None, slice_get}
use Rattle.trace_pairs.specs.Graph.{Edge, IsPositionSet}
use Rattle.logics.specs.declared.node.ProofNode.{ProofNode}
use Rattle.logics.specs.declared.node_tests.NodeAnswer.{NodeAnswer}
use Rattle.logics.specs.declared.node_tests.NodeAnswer.TheVariants.{Right, Faulty}
use Rattle.logics.specs.declared.checking.Tested.{Tested}
use Rattle.logics.specs.declared.checking.Tested.TheVariants as tested
use Rattle.logics.specs.Logics.{LogicValue}
use Rattle.logics.specs.Faults.{AreRight, IsLeastFault}
use Rattle.logics.specs.Graphs.{graph_of}

-- a node without a fault and its edges, or its first fault
abbrev pub IsNodeAnswer : {F : Type 0} → Option F → List Edge → NodeAnswer F → Type 0
IsNodeAnswer fault edges (Right answered) = (fault ≡ None) × (answered.items ≡ edges)
IsNodeAnswer fault edges (Faulty f) = fault ≡ Some f

-- the positions of each judgement are a set of positions
abbrev pub HaveSets : {J R F : Type 0} → LogicValue J R F → List (ProofNode J R) → Type 0
HaveSets {J} {R} c nodes = (v : ℕ) (node : ProofNode J R) → slice_get nodes v ≡ Some node
    → IsPositionSet (c.positions node.judgement)

-- the graph of nodes without a fault, or the least node with one
abbrev pub IsTested : {J R F : Type 0} → LogicValue J R F → List (ProofNode J R) → Tested F → Type 0
IsTested c nodes (tested.Right graph) = (graph ≡ graph_of c nodes) × AreRight c nodes × HaveSets c nodes
IsTested c nodes (tested.Faulty v fault) = IsLeastFault c nodes v fault
