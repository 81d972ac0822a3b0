-- One more node.
use Rattle.std.proofs.Common.{[], ◌∷◌, ◌++◌, ap, ◌∙◌}
use Rattle.trace_pairs.specs.Graph.{Node}
use Rattle.buchi_inclusion.proofs.Systems.{graph_more}
use Rattle.buchi_inclusion.proofs.system.graph_of.Goals as goal

pub loop-node-preserved : goal.loop-node-preserved
loop-node-preserved g c =
    graph_more (g.P.ProofSystem.graph_of c.args.proof.now)
    c.loop-node.graph c.push.new.self c.loop-node.node c.in_ok-positions.positions.items c.in_ok-edges.edges.items
    c.loop-node.invariant (c.in_ok-push.ensures.ok ∙ ap (λ (n : Node). c.loop-node.graph ++ (n ∷ [])) c.new.ensures)
    c.in_ok-positions.ensures c.in_ok-edges.ensures
