use Rattle.std.proofs.Common.{◌∙◌}
use Rattle.general_models.proofs.RangeSteps.{numbers_occur, stack_stays}
use Rattle.general_models.proofs.ranges.numbers_in.Goals as goal

pub returns-clause-occur : goal.returns-clause-occur
returns-clause-occur c =
    numbers_occur c.args.cells.now c.new-numbers.result.keys c.take.new.numbers.keys c.take_all.new.numbers.keys
    c.take_cells.new.numbers.keys c.args.stack.now c.deref.result.now
    (c.deref.ensures.value ∙ c.in_ok-addresses.ensures.value)
    c.in_ok-take.ensures c.in_ok-take_all.ensures c.in_ok-take_cells.ensures

pub returns-clause-stack : goal.returns-clause-stack
returns-clause-stack c =
    stack_stays c.args.cells.now c.take.new.numbers.keys c.take_all.new.numbers.keys c.take_cells.new.numbers.keys
    c.args.stack.now c.deref.result.now c.in_ok-take_all.ensures c.in_ok-take_cells.ensures
