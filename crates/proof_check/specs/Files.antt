-- A proof file as a list of nodes.
pub use Rattle.rule_book.specs.Graphs.{Node, node_fault, graph_node, graph_of, AreRight, AreReadable, HasSmallHeaps}
