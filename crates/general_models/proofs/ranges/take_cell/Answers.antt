use Rattle.std.proofs.lemmas.Result.{on_ok_weaker}
use Rattle.general_models.proofs.RangeSteps.{cell_taken}
use Rattle.general_models.proofs.ranges.take_cell.Goals as goal

pub returns-in-Some : goal.returns-in-Some
returns-in-Some c =
    on_ok_weaker c.take_all.result
    (cell_taken c.args.cells.now c.args.numbers.now.keys c.take.new.numbers.keys c.take_all.new.numbers.keys
    c.args.address c.in-Some.fields.now c.in-Some.ensures.value c.in_ok-take.ensures) c.take_all.ensures
