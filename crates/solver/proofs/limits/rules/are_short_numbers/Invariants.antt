use Rattle.std.proofs.Common.{drop}
use Rattle.heap_formula.specs.Words.{Each}
use Rattle.rule_book.specs.Limits.{IsShortNumber}
use Rattle.solver.proofs.limits.rules.are_short_numbers.Given as goal

abbrev pub invariant-loop-number : goal.invariant-loop-number
invariant-loop-number l = Each (IsShortNumber) (drop l.number-index l.numbers) → Each (IsShortNumber) l.numbers
