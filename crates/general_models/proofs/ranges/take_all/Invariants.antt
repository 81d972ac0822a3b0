use Rattle.std.proofs.Common.{take}
use Rattle.general_models.specs.Ranges.{TakesAll}
use Rattle.general_models.proofs.ranges.take_all.Given as goal

abbrev pub invariant-loop-value : goal.invariant-loop-value
invariant-loop-value l = TakesAll l.initial.numbers.keys l.numbers.keys (take l.value-index l.values)
