use Rattle.std.proofs.Common.{◌≡◌, ◌∙◌, ℕ, List, [], ◌∷◌, ◌++◌, Some, slice_get, length, arith, subst, ap}
use Rattle.derivations.specs.LogicNodes.{numbers_by, nodes_with}
use Rattle.derivations.proofs.LogicSteps.{node_next}
use Rattle.derivations.proofs.found.nodes.nodes_made.Goals as goal

pub loop-node-preserved : goal.loop-node-preserved
loop-node-preserved g c =
    let target = (g.L.Logic.logic c.args.logic.now).target in
    let graph = c.args.graph.now in
    let n = c.in-Some-node.traces.now in
    let m = c.in-Some.node in
    let size : c.len.result ≡ length c.loop-node.nodes.items = omega (arith, c.len.ensures, c.loop-node.nodes.ok) in
    let at = subst (λ (k : ℕ). slice_get graph k ≡ Some n) size c.in-Some-node.ensures in
    let put = λ (us : List ℕ). c.loop-node.nodes.items
    ++ record { judgement = m.goal.premise.judgement; reason = m.reason; premises = us } ∷ [] in
    let pushed = c.in_ok-push.ensures.items ∙ (ap put c.in_ok-premises.ensures
    ∙ ap (λ o. put (numbers_by o n.edges)) c.target.ensures) in
    node_next target graph (nodes_with target graph c.args.made.items)
    c.loop-node.nodes.items c.push.new.self.items c.loop-node.node-iterator.rest.items c.next.new.self.rest.items m
    n c.in-Some.ensures.steps.0 pushed at c.loop-node.invariant
