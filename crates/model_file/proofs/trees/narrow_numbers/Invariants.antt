use Rattle.std.proofs.Common.{◌≡◌, take, drop}
use Rattle.heap_formula.specs.Words.{Each}
use Rattle.model_file.specs.Small.{IsShortNumber}
use Rattle.model_file.proofs.trees.narrow_numbers.Given as goal

abbrev pub invariant-loop-value : goal.invariant-loop-value
invariant-loop-value l = (l.narrow.items ≡ take l.value-index l.values)
    × Each IsShortNumber (drop l.value-index l.values)
