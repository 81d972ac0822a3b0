use Rattle.std.proofs.Common.{◌<◌, length, arith}
use Rattle.general_models.proofs.RangeSteps.{no_cells_taken, next_cell_taken}
use Rattle.general_models.proofs.ranges.take_cells.Goals as goal

pub loop-address-init : goal.loop-address-init
loop-address-init c = no_cells_taken c.args.cells.now c.args.numbers.now.keys

pub loop-address-preserved : goal.loop-address-preserved
loop-address-preserved c =
    let h : c.loop-address.address-index < length c.args.addresses.now = omega arith in
    next_cell_taken c.args.cells.now c.args.numbers.now.keys c.loop-address.numbers.keys c.take_cell.new.numbers.keys
    c.args.addresses.now c.loop-address.address-index h c.loop-address.invariant c.in_ok-take_cell.ensures
