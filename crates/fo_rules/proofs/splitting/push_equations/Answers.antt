use Rattle.std.proofs.Common.{◌∙◌}
use Rattle.fo_formula.specs.declared.atoms.FoAtom.TheVariants.{Equation}
use Rattle.fo_rules.proofs.Ends.{equations_step}
use Rattle.fo_rules.proofs.splitting.push_equations.Goals as goal

pub loop-remaining-preserved : goal.loop-remaining-preserved
loop-remaining-preserved c =
    equations_step c.loop-remaining.all.items c.push.new.self.items c.loop-remaining.remaining
    c.loop-remaining.first.now c.loop-remaining.second.now c.rest_of-first.result.now c.rest_of-second.result.now
    c.in_ok-equation.equation _ c.loop-remaining-test.true c.in_ok-push.ensures.items
    (c.in_ok-equation.ensures ∙ (λ i. Equation (c.first_of.ensures i) (c.first_of-in-loop-remaining.ensures i)))
    c.rest_of-first.ensures c.rest_of-second.ensures c.loop-remaining.invariant
