use Rattle.std.proofs.Common.{◌≡◌, sym, ap, subst, ◌∙◌, true, false, List}
use Rattle.heap_formula.specs.declared.terms.Term.{Term}
use Rattle.model_check.specs.declared.locals.Local.{Local}
use Rattle.model_check.specs.ForcedLocals.{target_of, Sets}
use Rattle.model_check.proofs.Forcing.{follow_value, follow_absent}
use Rattle.model_check.proofs.locals.follow.Goals as goal

pub returns-in-Absent : goal.returns-in-Absent
returns-in-Absent c = λ b e.
    let z : false ≡ b = cc in
    follow_absent c.args.cells.now c.args.stack.now c.args.locals.now.items c.args.locals.now.items c.args.step.now b z
    (ap (λ (ls : List Local). target_of c.args.cells.now c.args.stack.now ls c.args.step.now)
    (sym c.deref.ensures.value) ∙ sym c.in-Absent.ensures)

pub returns-in_ok-set_local-in-Value : goal.returns-in_ok-set_local-in-Value
returns-in_ok-set_local-in-Value c = λ b e.
    let z : true ≡ b = cc in
    follow_value c.args.cells.now c.args.stack.now c.args.locals.now.items c.set_local.new.locals.items c.args.step.now
    c.in-Value.value b z (ap (λ (ls : List Local). target_of c.args.cells.now c.args.stack.now ls c.args.step.now)
    (sym c.deref.ensures.value) ∙ sym c.in-Value.ensures)
    (subst (λ
    (t : Term). Sets c.args.stack.now c.args.locals.now.items c.set_local.new.locals.items t c.in-Value.value)
    c.target_term.ensures c.in_ok-set_local-in-Value.ensures)
