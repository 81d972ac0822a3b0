use Rattle.std.proofs.Common.{length, sym, ◌∙◌}
use Rattle.std.proofs.lemmas.Result.{on_ok_weaker}
use Rattle.buchi_inclusion.specs.Leaf.{with_leaf}
use Rattle.derivations.specs.Tableau.{linked}
use Rattle.derivations.proofs.Stack.{top_next}
use Rattle.derivations.proofs.Nexts.{next_occurs, traces_fit, graph_at}
use Rattle.derivations.proofs.derivation.Derivation+L+L+Judgement+L+Reason.grow.Goals as goal

pub positions-requires : goal.positions-requires
positions-requires g c = let next = top_next c.args.self.now.goals.items c.deref.result.now c.in-Some.goal.now
    c.deref.ensures.value c.in-Some.ensures.value in
    (next_occurs g.L.Rules.calculus g.L.Rules.occurs g.L.Rules.allows c.args.self.now c.requires.order
    c.in-Some.goal.now next.0 next.1).goal

pub add_node-requires : goal.add_node-requires
add_node-requires g c = traces_fit g.L.Rules.calculus g.L.Rules.occurs g.L.Rules.allows c.args.self.now c.requires.order

pub returns : goal.returns
returns g c =
    let next = top_next c.args.self.now.goals.items c.deref.result.now c.in-Some.goal.now c.deref.ensures.value
    c.in-Some.ensures.value in
    on_ok_weaker c.add_node.result
    (λ e. λ i. record {
      logic = c.args.self.now.logic;
      limit = c.args.self.now.limit;
      root = c.args.self.now.root;
      made = c.args.self.now.made;
      goals = c.args.self.now.goals;
      traces = (e
          ∙ ((λ k. linked (length c.args.self.now.traces) (with_leaf c.args.self.now.traces c.in-Some.goal.now.parent
          (c.as_slice-pairs.ensures k) (c.in_ok-positions.ensures k)) c.args.back)
          ∙ sym (graph_at g.L.Rules.calculus g.L.Rules.occurs g.L.Rules.allows c.args.self.now c.requires.order
          c.args.back c.in-Some.goal.now next.0 next.1))) i;
    })
    c.add_node.ensures
