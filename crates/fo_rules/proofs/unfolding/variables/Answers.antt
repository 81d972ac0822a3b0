use Rattle.fo_rules.proofs.CaseMaking.{variables_step}
use Rattle.fo_rules.proofs.unfolding.variables.Goals as goal

pub loop-k-preserved : goal.loop-k-preserved
loop-k-preserved c =
    variables_step c.loop-k.all.items c.push.new.self.items c.args.number c.loop-k.k c.args.count
    c.in_ok-variable.field-0 _ c.loop-k-test.true c.in_ok-push.ensures.items c.in_ok-variable.ensures
    c.loop-k.invariant
