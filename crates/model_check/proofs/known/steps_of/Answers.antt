use Rattle.std.proofs.Common.{◌++◌, refl, ap, ◌∙◌}
use Rattle.model_check.specs.Steps.{pure_steps, pures_steps, spatial_steps, spatials_steps}
use Rattle.model_check.proofs.Loops.{appended}
use Rattle.model_check.proofs.known.steps_of.Goals as goal

pub loop-atom-preserved : goal.loop-atom-preserved
loop-atom-preserved c =
    appended pures_steps pure_steps c.pure-atom-items.result.now c.loop-atom.atom-index _ c.loop-atom.steps.items
    c.push_pure_steps.new.steps.items _ (λ x ys. refl)
    c.loop-atom-test.true c.in_ok-push_pure_steps.ensures c.loop-atom.invariant

pub loop-atom-2-preserved : goal.loop-atom-2-preserved
loop-atom-2-preserved c =
    appended spatials_steps spatial_steps c.spatial-atom-items.result.now c.loop-atom-2.atom-index c.atom-item.result
    c.loop-atom-2.steps.items c.push_spatial_steps.new.steps.items _ (λ x ys. refl) c.loop-atom-2-test.true
    (c.in_ok-push_spatial_steps.ensures ∙ ap (λ x. c.loop-atom-2.steps.items ++ spatial_steps x) c.atom-item.is)
    c.loop-atom-2.invariant
