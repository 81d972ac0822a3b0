use Rattle.std.proofs.Common.{sym, subst}
use Rattle.trace_pairs.specs.Graph.{IsGraph}
use Rattle.derivations.proofs.Nexts.{whole_graph, above_is}
use Rattle.derivations.proofs.derivation.Derivation+L+L+Judgement+L+Reason.is_above_states.Goals as goal

pub tried-requires : goal.tried-requires
tried-requires g c = subst IsGraph (sym c.in_ok-graph.ensures)
    (whole_graph g.L.Rules.calculus g.L.Rules.occurs g.L.Rules.allows c.args.self.now c.requires.order
    c.requires.complete)

pub returns : goal.returns
returns g c = above_is g.L.Rules.calculus g.L.Rules.occurs g.L.Rules.allows c.args.self.now c.requires.order
    c.in_ok-graph.graph c.is_above.result c.in_ok-graph.ensures
    (c.is_above.ensures c.in_ok-graph.graph c.in_ok-tried.ensures)
