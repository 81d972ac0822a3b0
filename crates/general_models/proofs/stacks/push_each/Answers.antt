use Rattle.std.proofs.Common.{◌∷◌, [], ◌++◌, map, refl, ap, ◌∙◌}
use Rattle.model_check.proofs.Loops.{appended}
use Rattle.general_models.proofs.stacks.push_each.Goals as goal

pub loop-value-preserved : goal.loop-value-preserved
loop-value-preserved c =
    appended (map (λ v. c.args.values.now ++ v ∷ [])) (λ v. (c.args.values.now ++ v ∷ []) ∷ [])
    c.args.range.now c.loop-value.value-index _ c.loop-value.stacks.items c.push.new.self.items _ (λ x ys. refl)
    c.loop-value-test.true (c.in_ok-push.ensures.items ∙ ap (λ s. c.loop-value.stacks.items ++ s ∷ [])
    c.in_ok-longer.ensures) c.loop-value.invariant
