use Rattle.std.proofs.Common.{take}
use Rattle.general_models.specs.Ranges.{TakesCells}
use Rattle.general_models.proofs.ranges.take_cells.Given as goal

abbrev pub invariant-loop-address : goal.invariant-loop-address
invariant-loop-address l = TakesCells l.cells l.initial.numbers.keys l.numbers.keys (take l.address-index l.addresses)
