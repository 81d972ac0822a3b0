use Rattle.std.proofs.Common.{◌≡◌, ◌+◌, ◌++◌, map, length}
use Rattle.draw_top.specs.Graphs.{edge_of, node_of}
use Rattle.proof_picture.specs.Pictures.{box_of}
use Rattle.draw_top.specs.Drawings.{box_edges, box_nodes}
use Rattle.draw_top.proofs.drawing.graph_of.Given as goal

-- The nodes and edges so far, and those of the boxes that are left.
abbrev pub invariant-loop-node : goal.invariant-loop-node
invariant-loop-node l =
    let all = map box_of l.fn.picture.boxes.items in
    let rest = map box_of l.node-iterator.rest.items in
    let count = length l.vertices.items in
    (count + length l.node-iterator.rest.items ≡ length l.fn.picture.boxes.items)
    × (map node_of l.vertices.items ++ box_nodes count rest ≡ box_nodes 0 all)
    × (map edge_of l.arrows.items ++ box_edges count rest ≡ box_edges 0 all)
