use Rattle.std.proofs.Common.{ap, ◌∙◌}
use Rattle.derivations.specs.Stack.{front}
use Rattle.derivations.specs.Leaves.{drop_edge}
use Rattle.derivations.proofs.Leaves.{popped_front}
use Rattle.derivations.proofs.tableaux.traces.GrowingTraces.remove_node.Goals as goal

pub returns : goal.returns
returns c =
    c.pop_edge.ensures ∙ ap (drop_edge c.args.parent) ((c.pop.ensures.rest
    ∙ popped_front c.self.inside.nodes.items c.self.inside.nodes.len c.self.inside.nodes.ok.0)
    ∙ ap front c.self.view_is)
