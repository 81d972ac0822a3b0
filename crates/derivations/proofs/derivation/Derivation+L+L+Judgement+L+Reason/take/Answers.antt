use Rattle.std.proofs.Common.{◌<◌, ◌+◌, ◌∷◌, [], ◌++◌, length, reverse, arith, sym, ap, subst, ◌∙◌}
use Rattle.derivations.specs.Tableau.{Goal, goals_of}
use Rattle.derivations.specs.Derivations.{about}
use Rattle.derivations.proofs.Stack.{next_of}
use Rattle.derivations.proofs.Nexts.{same_goal}
use Rattle.derivations.proofs.Taking.{taken}
use Rattle.derivations.proofs.derivation.Derivation+L+L+Judgement+L+Reason.take.Goals as goal

pub overflow_cast-node : goal.overflow_cast-node
overflow_cast-node g c = omega (
  arith,
  c.len-node.ensures,
  c.grow.new.self.made.ok.0,
  ap (λ (x : _). length x.made.items) c.in_ok-grow.ensures,
  c.requires.order.few,
  c.requires.order.fits,
)

pub push_goals-requires-clause-depth : goal.push_goals-requires-clause-depth
push_goals-requires-clause-depth g c some' =
    subst (λ (x : Goal _). x.depth < 4294967295)
    (same_goal g.L.Rules.calculus g.L.Rules.occurs g.L.Rules.allows c.args.self.now c.requires.order c.args.reason
    c.args.effect c.requires.effect.has c.in-Some.goal (reverse c.pop.new.self.items)
    (next_of c.args.self.now.goals.items c.in-Some.goal c.pop.new.self.items
    (sym (ap (λ (x : _). x.goals.items) c.in_ok-grow.ensures) ∙ c.in-Some.ensures.items)))
    (c.requires.effect.depth some')

pub push_goals-requires-clause-few : goal.push_goals-requires-clause-few
push_goals-requires-clause-few g c = omega (arith, c.requires.effect.room, c.requires.order.fits)

pub returns-clause-order : goal.returns-clause-order
returns-clause-order g c =
    taken g.L.Rules.calculus g.L.Rules.occurs g.L.Rules.allows c.args.self.now _ c.in-Some.goal c.pop.new.self.items
    c.args.reason c.args.effect c.requires.order c.requires.allowed c.requires.effect (record {
      goals = sym (ap (λ (x : _). x.goals.items) c.in_ok-grow.ensures) ∙ c.in-Some.ensures.items;
      opened = c.in_ok-push_goals.ensures ∙ ap (λ n. goals_of n (c.in-Some.goal.depth + 1)
          0 c.args.effect.premises.items ++ reverse c.pop.new.self.items)
          (c.len-node.ensures ∙ (c.grow.new.self.made.ok.0 ∙ ap (λ (x : _). length x.made.items) c.in_ok-grow.ensures));
      made = c.in_ok-push.ensures.items ∙ ap (λ (x : _). x.made.items
          ++ record { goal = c.in-Some.goal; reason = c.args.reason } ∷ []) c.in_ok-grow.ensures;
      traces = ap (λ (x : _). x.traces) c.in_ok-grow.ensures;
      same = ap about c.in_ok-grow.ensures;
    })
