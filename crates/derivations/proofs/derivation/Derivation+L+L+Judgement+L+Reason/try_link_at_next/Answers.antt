use Rattle.std.proofs.Common.{sym, subst}
use Rattle.std.proofs.lemmas.Result.{IfOk-weaker}
use Rattle.trace_pairs.specs.Graph.{IsGraph}
use Rattle.derivations.specs.Derivations.{IsNextEffect}
use Rattle.derivations.proofs.Nexts.{next_is_graph, fares, none_fares}
use Rattle.derivations.proofs.derivation.Derivation+L+L+Judgement+L+Reason.try_link_at_next.Goals as goal

pub tried-requires : goal.tried-requires
tried-requires g c =
    let has = subst (IsNextEffect g.L.Rules.calculus c.args.self.now c.args.link.now)
    c.in-Some.is c.in_ok-effect.ensures in
    subst IsGraph (sym c.in_ok-graph.ensures.graph)
    (next_is_graph g.L.Rules.calculus g.L.Rules.occurs g.L.Rules.allows c.args.self.now c.requires.order
    c.args.link.now c.in-Some.effect c.requires.allowed has)

pub returns-in_default-clause-tried : goal.returns-in_default-clause-tried
returns-in_default-clause-tried g c = none_fares g.L.Rules.calculus g.L.Rules.occurs g.L.Rules.allows c.args.self.now
    c.requires.order c.args.link.now (subst (IsNextEffect g.L.Rules.calculus c.args.self.now c.args.link.now)
    c.in_default.is c.in_ok-effect.ensures)

pub returns-clause-tried : goal.returns-clause-tried
returns-clause-tried g c =
    let has = subst (IsNextEffect g.L.Rules.calculus c.args.self.now c.args.link.now)
    c.in-Some.is c.in_ok-effect.ensures in
    IfOk-weaker c.tried.result _ _
    (λ t h. fares g.L.Rules.calculus g.L.Rules.occurs g.L.Rules.allows c.args.self.now c.requires.order
    c.args.link.now c.in-Some.effect has c.in_ok-graph.graph t c.in_ok-graph.ensures.graph h) c.tried.ensures
