use Rattle.std.proofs.Common.{◌∙◌}
use Rattle.derivations.specs.Leaves.{without_edge}
use Rattle.derivations.proofs.Leaves.{popped_front}
use Rattle.derivations.proofs.tableaux.traces.GrowingNode.pop.Goals as goal

pub returns : goal.returns
returns c =
    (λ i. record {
      positions = c.self.inside.positions.items;
      edges = (c.pop.ensures.rest
          ∙ popped_front c.self.inside.edges.items c.self.inside.edges.len c.self.inside.edges.ok.0) i;
    })
    ∙ (λ i. without_edge (c.self.view_is i))
