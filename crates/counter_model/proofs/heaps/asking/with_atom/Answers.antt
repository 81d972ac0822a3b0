use Rattle.counter_model.specs.Findings.{found_if_asked}
use Rattle.counter_model.proofs.AtomSteps.{cell_beside, found_beside}
use Rattle.counter_model.proofs.Turns.{unchanged}
use Rattle.counter_model.proofs.heaps.asking.with_atom.Goals as goal

pub returns-in_ok-combine-in-Cell : goal.returns-in_ok-combine-in-Cell
returns-in_ok-combine-in-Cell c =
    unchanged c.args.table.now (cell_beside c.args.greatest (found_if_asked c.args.greatest c.args.table.now)
    c.args.parts.now c.in_ok-cells-in-Cell.cells c.as_slice-in-Cell.result.now c.in_ok-combine-in-Cell.field-0
    c.args.stack.now c.args.locals.now c.args.atom.now c.in-Cell.t c.in-Cell.ts c.as_slice.result.now
    c.in_ok-fields-in-Cell.fields.items c.value_of.result c.in-Cell.is c.as_slice.ensures
    c.in_ok-fields-in-Cell.ensures c.value_of.ensures c.in_ok-cells-in-Cell.ensures c.as_slice-in-Cell.ensures
    c.in_ok-combine-in-Cell.ensures)

pub returns-in_ok-combine-in-Pred : goal.returns-in_ok-combine-in-Pred
returns-in_ok-combine-in-Pred c =
    found_beside c.args.greatest c.args.table.now c.ask.new.self c.in_ok-q-in-Pred.is_new c.args.parts.now
    c.heaps.result.now c.in_ok-combine-in-Pred.field-0 c.args.stack.now c.args.locals.now c.args.atom.now
    c.in-Pred.p c.in-Pred.ts c.as_slice-in-Pred.result.now c.in_ok-values-in-Pred.values.items c.in_ok-q-in-Pred.q
    c.in-Pred.is c.as_slice-in-Pred.ensures c.in_ok-values-in-Pred.ensures c.in_ok-q-in-Pred.ensures.grown
    c.heaps.ensures c.in_ok-combine-in-Pred.ensures
