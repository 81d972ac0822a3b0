use Rattle.std.proofs.Common.{◌≡◌, sym, ap, subst, true, false, Ok, vec_len, length, ◌<◌, arith}
use Rattle.heap_formula.specs.declared.terms.Term.TheVariants.{Nil}
use Rattle.model_check.specs.declared.known.ValueStep.TheVariants.{Same}
use Rattle.model_check.specs.ForcedLocals.{Passes}
use Rattle.model_check.proofs.Forcing.{pass_step, pass_none}
use Rattle.model_check.proofs.locals.follow_all.Goals as goal

pub returns-then-not-branch : goal.returns-then-not-branch
returns-then-not-branch c = λ b e.
    let z : false ≡ b = cc in
    let h : c.loop-step.step-index < length c.args.steps.now = omega arith in
    let t = c.if-not-branch.true in
    let w : c.in_ok-follow.field-0 ≡ false = c.if-not-branch.true in
    subst (Passes c.args.cells.now c.args.stack.now c.args.steps.now (vec_len c.args.locals.now)
    (vec_len c.follow.new.locals) c.follow.new.locals.items) z
    (pass_none c.args.cells.now c.args.stack.now c.args.steps.now c.loop-step.step-index (Same Nil Nil)
    c.loop-step.locals.items c.follow.new.locals.items h c.loop-step.invariant.forced
    (c.in_ok-follow.ensures false (ap Ok w)))

pub loop-step-preserved : goal.loop-step-preserved
loop-step-preserved c =
    let h : c.loop-step.step-index < length c.args.steps.now = omega arith in
    let t = c.if-not-branch.false in
    let w : c.in_ok-follow.field-0 ≡ true = c.if-not-branch.false in
    let v = c.loop-step.invariant in
    let r = pass_step c.args.cells.now c.args.stack.now c.args.steps.now c.loop-step.step-index (Same Nil Nil)
    (vec_len c.args.locals.now) (vec_len c.loop-step.locals) (vec_len c.follow.new.locals)
    c.loop-step.locals.items c.follow.new.locals.items h (sym c.loop-step.locals.ok.0)
    (sym c.follow.new.locals.ok.0) v.forced v.longer v.closed (c.in_ok-follow.ensures true (ap Ok w)) in
    record { forced = r.0; longer = r.1; closed = r.2 }
