use Rattle.model_check.proofs.Fitting.{none_fits, not_fit, yes_only}
use Rattle.model_check.proofs.locals.locals_of.Goals as goal

pub returns-in-None : goal.returns-in-None
returns-in-None c = none_fits c.args.cells.now c.args.stack.now c.args.heap.now
    (rw c.in-None.is at c.in_ok-evaluate_heap.ensures)

pub returns-then-branch : goal.returns-then-branch
returns-then-branch c =
    yes_only c.args.cells.now c.args.stack.now c.args.heap.now c.in-Some.locals.items c.deref.result.now
    c.in_ok-fits-in-Some.field-0 c.requires c.deref.ensures.value c.if-branch.true c.in_ok-fits-in-Some.ensures

pub returns-else-branch : goal.returns-else-branch
returns-else-branch c =
    not_fit c.args.cells.now c.args.stack.now c.args.heap.now c.in-Some.locals.items c.deref.result.now
    c.in_ok-fits-in-Some.field-0 c.requires (rw c.in-Some.is at c.in_ok-evaluate_heap.ensures)
    c.deref.ensures.value c.if-branch.false c.in_ok-fits-in-Some.ensures
