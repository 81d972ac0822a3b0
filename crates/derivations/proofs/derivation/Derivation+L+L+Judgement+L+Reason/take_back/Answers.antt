use Rattle.std.proofs.Common.{◌∷◌, [], length, length-append, reverse, arith, refl, ap, ◌∙◌}
use Rattle.derivations.specs.Goals.{others_of}
use Rattle.derivations.proofs.TakenBack.{reasons_front}
use Rattle.derivations.proofs.Returning.{returned}
use Rattle.derivations.proofs.derivation.Derivation+L+L+Judgement+L+Reason.take_back.Goals as goal

pub overflow_cast-len : goal.overflow_cast-len
overflow_cast-len g c = omega (
  arith,
  c.len.ensures,
  c.pop.new.self.ok.0,
  ap length c.in-Some.ensures.items,
  length-append c.pop.new.self.items (c.in-Some.node ∷ []),
  c.requires.few,
  c.requires.fits,
)

pub returns-clause-order : goal.returns-clause-order
returns-clause-order g c =
    returned g.L.Rules.calculus g.L.Rules.occurs g.L.Rules.allows c.args.self.now _ c.in-Some.node
    c.drop_goals.new.goals.items c.requires (record {
      made = c.in-Some.ensures.items;
      dropped = c.drop_goals.ensures ∙ ap (λ n. others_of n (reverse c.args.self.now.goals.items))
          (c.len.ensures ∙ c.pop.new.self.ok.0);
      goals = c.in_ok-push.ensures.items;
      traces = c.remove_node.ensures;
      same = refl;
    })

pub returns-clause-made : goal.returns-clause-made
returns-clause-made g c = reasons_front c.args.self.now.made.items c.pop.new.self.items c.in-Some.node
    c.in-Some.ensures.items
