-- The parts of a node, as they lie in an arena.
use Rattle.std.specs.Prelude.{ℕ, ◌≡◌, List, Some, slice_get, option_map}
use Rattle.std.specs.Option.{option_copied}
use Rattle.proof_graph.specs.declared.nodes.GraphNode.{GraphNode}
use Rattle.proof_graph.specs.declared.graph_nodes.NodeView.{NodeView}
use Rattle.proof_graph.specs.HeapViews.{judgement_of}
use Rattle.proof_graph.specs.ReasonViews.{reason_of}

-- the parts are those of the node
pub record IsViewOf (node : GraphNode) (view : NodeView) : Type 0 where
  pub judgement : judgement_of view.judgement.now ≡ node.judgement
  pub reason : option_map reason_of (option_copied view.reason) ≡ node.reason
  pub premises : view.premises.now ≡ node.premises

-- the parts of node i are these
pub record IsViewed (nodes : List GraphNode) (i : ℕ) (view : NodeView) : Type 0 where
  pub node : GraphNode
  pub is_node : slice_get nodes i ≡ Some node
  pub judgement : judgement_of view.judgement.now ≡ node.judgement
  pub reason : option_map reason_of (option_copied view.reason) ≡ node.reason
  pub premises : view.premises.now ≡ node.premises
