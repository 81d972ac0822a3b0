use Rattle.std.proofs.Common.{[], ◌∷◌, ◌++◌, ap, ◌∙◌}
use Rattle.search_moves.specs.Graphs.{made_of}
use Rattle.search_moves.specs.Nodes.{MadeNode}
use Rattle.search_moves.proofs.LowerNodes.{lower_given}
use Rattle.search_moves.proofs.graphs.made_nodes.Goals as goal

pub loop-v-preserved : goal.loop-v-preserved
loop-v-preserved c =
    lower_given (λ v node. made_of c.args.graph.now v node ∷ []) c.args.graph.now c.args.goal c.loop-v.v
    c.loop-v.made.items c.push.new.self.items _ c.loop-v-test.true c.requires
    (λ node at. c.in_ok-push.ensures.items
    ∙ ap (λ (m : MadeNode). c.loop-v.made.items ++ m ∷ []) (c.in_ok-made_node.ensures node at)) c.loop-v.invariant
