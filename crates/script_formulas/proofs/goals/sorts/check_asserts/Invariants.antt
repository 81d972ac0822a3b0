use Rattle.std.proofs.Common.{take}
use Rattle.heap_formula.specs.Words.{Each}
use Rattle.script_formulas.specs.Formulas.{formula_of}
use Rattle.script_formulas.specs.Sorts.{IsSortedIn}
use Rattle.script_formulas.proofs.goals.sorts.check_asserts.Given as goal

abbrev pub invariant-loop-number : goal.invariant-loop-number
invariant-loop-number l = Each (λ f. IsSortedIn l.script l.known (formula_of f)) (take l.number l.formulas)
