use Rattle.std.proofs.Common.{◌+◌, arith, refl, ◌∙◌}
use Rattle.derivations.proofs.Stack.{pushed_goal, popped_fewer}
use Rattle.derivations.proofs.tableaux.goals.push_goals.Goals as goal

pub loop-premise-smaller : goal.loop-premise-smaller
loop-premise-smaller g c = omega
    (arith, popped_fewer c.loop-premise.premises.items c.pop.new.self.items c.in-Some.premise c.in-Some.ensures.items)

pub loop-premise-preserved : goal.loop-premise-preserved
loop-premise-preserved g c = (
  pushed_goal c.args.node (c.args.depth + 1)
      _ c.loop-premise.premises.items c.pop.new.self.items c.in-Some.premise c.loop-premise.goals.items
      c.push.new.self.items c.in-Some.ensures.items (c.len.ensures ∙ c.pop.new.self.ok.0) c.in_ok-push.ensures.items
      ∙ c.loop-premise.invariant.0,
  omega (
    arith,
    c.loop-premise.invariant.1,
    popped_fewer c.loop-premise.premises.items c.pop.new.self.items c.in-Some.premise c.in-Some.ensures.items,
  ),
  refl,
  refl,
)
