use Rattle.general_models.proofs.SomeOf.{excluded}
use Rattle.general_models.proofs.Leaving.{not_there, taken}
use Rattle.general_models.proofs.derivations.taking.take_cell.Goals as goal

pub returns-then-not-has_cell : goal.returns-then-not-has_cell
returns-then-not-has_cell c =
    not_there c.args.address c.args.fields.now c.args.left.now c.args.left.now
    (excluded c.has_cell.result c.if-not-has_cell.true c.has_cell.ensures.exact)

pub returns : goal.returns
returns c =
    taken c.args.address c.args.fields.now c.args.left.now c.remove.new.self c.has_cell.ensures.heap
    (c.has_cell.ensures.exact.0 c.if-not-has_cell.false) c.remove.ensures
