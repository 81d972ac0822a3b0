use Rattle.std.proofs.Common.{ap, ◌∙◌}
use Rattle.derivations.specs.Leaves.{without_leaf}
use Rattle.derivations.proofs.Stack.{top_next}
use Rattle.derivations.proofs.Nexts.{graph_again}
use Rattle.derivations.proofs.derivation.Derivation+L+L+Judgement+L+Reason.trial.Goals as goal

pub returns-clause-same : goal.returns-clause-same
returns-clause-same g c =
    let next = top_next c.args.self.now.goals.items c.deref.result.now c.in-Some.goal.now c.deref.ensures.value
    c.in-Some.ensures.value in
    λ i. record {
      logic = (c.in_ok-grow.ensures i).logic;
      limit = (c.in_ok-grow.ensures i).limit;
      root = (c.in_ok-grow.ensures i).root;
      made = (c.in_ok-grow.ensures i).made;
      goals = (c.in_ok-grow.ensures i).goals;
      traces = (c.remove_node.ensures ∙ (ap (λ (x : _). without_leaf x.traces c.in-Some.goal.now.parent)
          c.in_ok-grow.ensures
          ∙ graph_again g.L.Rules.calculus g.L.Rules.occurs g.L.Rules.allows c.args.self.now c.requires.order
          c.args.back c.in-Some.goal.now next.0 next.1)) i;
    }
