use Rattle.std.proofs.Common.{arith}
use Rattle.draw_top.specs.Graphs.{drawing_of}
use Rattle.proof_picture.proofs.Counts.{picture_few}
use Rattle.draw_top.proofs.Told.{text_is}
use Rattle.draw_top.proofs.answering.text_of.Goals as goal

pub graph_in-requires : goal.graph_in-requires
graph_in-requires c =
    let few = picture_few c.args.file.now c.in_ok-verdict.verdict c.in_ok-picture.picture c.in_ok-picture.ensures in
    omega (arith, few)

pub returns : goal.returns
returns c =
    text_is (λ b. b.items)
    c.write_graph.result c.args.view c.args.file.now c.in_ok-verdict.verdict c.in_ok-picture.picture
    (drawing_of c.in_ok-graph.graph)
    c.in_ok-verdict.ensures c.in_ok-picture.ensures c.in_ok-graph.ensures c.write_graph.ensures
