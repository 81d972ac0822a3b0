use Rattle.std.proofs.Common.{◌≡◌, ◌++◌, map}
use Rattle.draw_top.specs.Graphs.{cluster_of, edge_of, node_of}
use Rattle.draw_top.specs.Folds.{trees_clusters, trees_edges, trees_nodes}
use Rattle.proof_picture.specs.Shown.{tree_of}
use Rattle.draw_top.proofs.folds.folded_graph.Given as goal

-- The nodes, frames and edges so far, and those of the trees that are left.
abbrev pub invariant-loop-tree : goal.invariant-loop-tree
invariant-loop-tree l =
    let all = map tree_of l.fn.picture.trees.items in
    let rest = map tree_of l.tree-iterator.rest.items in
    (map node_of l.vertices.items ++ trees_nodes rest ≡ trees_nodes all)
    × (map cluster_of l.clusters.items ++ trees_clusters rest ≡ trees_clusters all)
    × (map edge_of l.arrows.items ++ trees_edges rest ≡ trees_edges all)
