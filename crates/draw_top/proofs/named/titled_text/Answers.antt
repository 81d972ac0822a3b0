use Rattle.std.proofs.Common.{arith}
use Rattle.draw_top.specs.Graphs.{drawing_of}
use Rattle.proof_picture.specs.Naming.{naming_of}
use Rattle.proof_picture.specs.NamedPictures.{labels_in}
use Rattle.proof_picture.specs.Pieces.{pieces_of}
use Rattle.proof_picture.specs.Pictures.{drawn_rows}
use Rattle.proof_picture.proofs.Counts.{boxes_with_few}
use Rattle.draw_top.proofs.Told.{titled_is}
use Rattle.draw_top.proofs.named.titled_text.Goals as goal

pub graph_in-requires : goal.graph_in-requires
graph_in-requires c =
    let f = c.args.file.now in
    let v = c.in_ok-verdict.verdict in
    let few = boxes_with_few f v c.in_ok-picture.picture (labels_in (naming_of c.args.naming.now) f (drawn_rows f v))
    c.in_ok-picture.ensures.boxes in
    omega (arith, few)

pub returns : goal.returns
returns c =
    titled_is (λ b. b.items) c.write_graph.result c.args.view c.args.file.now (naming_of c.args.naming.now)
    c.in_ok-verdict.verdict c.in_ok-picture.picture (pieces_of c.args.title) (drawing_of c.in_ok-graph.graph)
    (drawing_of c.in_ok-graph-2.graph)
    c.in_ok-verdict.ensures c.in_ok-picture.ensures c.in_ok-graph.ensures c.in_ok-graph-2.ensures
    c.write_graph.ensures
