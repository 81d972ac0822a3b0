use Rattle.derivations.specs.LogicNodes.{nodes_with}
use Rattle.derivations.proofs.LogicSteps.{IsDone}
use Rattle.derivations.proofs.found.nodes.nodes_made.Given as goal

abbrev pub invariant-loop-node : goal.invariant-loop-node
invariant-loop-node g l =
    let target = (g.L.Logic.logic l.logic).target in
    IsDone target l.graph (nodes_with target l.graph l.fn.made.items) l.nodes.items l.node-iterator.rest.items
