use Rattle.std.proofs.Common.{◌≡◌, ◌++◌, map}
use Rattle.draw_top.specs.Graphs.{edge_of, node_of}
use Rattle.draw_top.specs.Folds.{shown_edges, shown_nodes}
use Rattle.proof_picture.specs.Shown.{shown_of}
use Rattle.draw_top.proofs.folds.add_boxes.Given as goal

-- The nodes and edges so far, and those of the boxes that are left.
abbrev pub invariant-loop-shown : goal.invariant-loop-shown
invariant-loop-shown l =
    let all = map shown_of l.fn.boxes.items in
    let rest = map shown_of l.shown-iterator.rest.items in
    (map node_of l.vertices.items ++ shown_nodes rest ≡ map node_of l.fn.vertices.items ++ shown_nodes all)
    × (map edge_of l.arrows.items ++ shown_edges rest ≡ map edge_of l.fn.arrows.items ++ shown_edges all)
