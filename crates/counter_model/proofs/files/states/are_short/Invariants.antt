use Rattle.std.proofs.Common.{drop}
use Rattle.heap_formula.specs.Words.{Each}
use Rattle.model_file.specs.Small.{IsShortNumber}
use Rattle.counter_model.proofs.files.states.are_short.Given as goal

abbrev pub invariant-loop-number : goal.invariant-loop-number
invariant-loop-number l = Each IsShortNumber (drop l.number-index l.numbers) → Each IsShortNumber l.numbers
