use Rattle.std.proofs.Common.{◌∷◌, [], ◌++◌, refl, ap, ◌∙◌}
use Rattle.heap_formula.specs.Values.{value, values}
use Rattle.model_check.specs.ForcedLocals.{stack_of}
use Rattle.model_check.proofs.Loops.{appended}
use Rattle.model_check.proofs.locals.terms_in.Goals as goal

pub loop-term-preserved : goal.loop-term-preserved
loop-term-preserved c =
    appended (values c.args.stack.now (stack_of c.args.locals.now))
    (λ t. value c.args.stack.now (stack_of c.args.locals.now) t ∷ [])
    c.args.terms.now c.loop-term.term-index _ c.loop-term.out.items c.push.new.self.items _ (λ x ys. refl)
    c.loop-term-test.true (c.in_ok-push.ensures.items ∙ ap (λ v. c.loop-term.out.items ++ v ∷ []) c.term_in.ensures)
    c.loop-term.invariant
