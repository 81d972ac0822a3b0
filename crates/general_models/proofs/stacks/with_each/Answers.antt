use Rattle.std.proofs.Common.{◌∷◌, [], ◌++◌, map, refl, ap, ◌∙◌}
use Rattle.model_check.proofs.Loops.{appended}
use Rattle.general_models.specs.RangedGrounding.{with_each}
use Rattle.general_models.proofs.stacks.with_each.Goals as goal

pub loop-stack-preserved : goal.loop-stack-preserved
loop-stack-preserved c =
    appended (with_each c.args.range.now) (λ s. map (λ v. s ++ v ∷ []) c.args.range.now)
    c.args.stacks.now c.loop-stack.stack-index c.stack-item.result c.loop-stack.longer.items
    c.push_each.new.stacks.items _ (λ x ys. refl) c.loop-stack-test.true
    (c.in_ok-push_each.ensures ∙ ap (λ s. c.loop-stack.longer.items ++ map (λ v. s ++ v ∷ []) c.args.range.now)
    (c.as_slice.ensures ∙ c.stack-item.is)) c.loop-stack.invariant
