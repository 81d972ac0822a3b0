use Rattle.std.proofs.Common.{arith, ap, length, length-take, take, ◌∙◌}
use Rattle.search_moves.specs.Graphs.{made_of}
use Rattle.search_moves.proofs.LowerNodes.{one_each}
use Rattle.search_moves.proofs.graphs.offers.Goals as goal

pub offers_of-requires-clause-few : goal.offers_of-requires-clause-few
offers_of-requires-clause-few c =
    let graph = c.args.graph.now in
    let long = ap length c.deref.ensures.value ∙ ap length c.in_ok-made.ensures
    ∙ one_each (made_of graph) 0 (take c.args.goal graph) in
    omega (arith, long, length-take c.args.goal graph, c.requires.goal, c.ranges.goal.fits)
