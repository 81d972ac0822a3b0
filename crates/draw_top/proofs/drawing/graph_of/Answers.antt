use Rattle.std.proofs.Common.{◌≡◌, ◌++◌, length, map, ap, ◌∙◌, arith}
use Rattle.draw_top.specs.Graphs.{edge_of}
use Rattle.proof_picture.specs.Pieces.{pieces_of}
use Rattle.proof_picture.specs.Arrows.{drawn_of}
use Rattle.proof_picture.specs.Pictures.{box_of}
use Rattle.draw_top.specs.Drawings.{arrow_edges, box_node}
use Rattle.draw_top.proofs.Loops.{one_box}
use Rattle.draw_top.proofs.drawing.graph_of.Goals as goal

pub loop-node-preserved : goal.loop-node-preserved
loop-node-preserved c =
    let size : c.len-number.result ≡ length c.loop-node.vertices.items = omega
    (arith, c.len-number.ensures, c.loop-node.vertices.ok) in
    one_box c.loop-node.vertices.items c.push.new.self.items c.loop-node.arrows.items c.add_edges.new.edges.items
    c.in_ok-vertex.field-0 c.in-Some.node c.loop-node.node-iterator.rest.items c.next.new.self.rest.items
    c.args.picture.boxes.items (map box_of c.args.picture.boxes.items)
    c.in-Some.ensures.steps.0
    c.in_ok-push.ensures.items
    (c.in_ok-vertex.ensures ∙ ap (λ k. box_node k (pieces_of c.in-Some.node.label) c.in-Some.node.fault) size)
    (c.in_ok-add_edges.ensures ∙ (λ i. map edge_of c.loop-node.arrows.items
    ++ arrow_edges (size i) (map drawn_of (c.deref.ensures.value i))))
    c.loop-node.invariant
