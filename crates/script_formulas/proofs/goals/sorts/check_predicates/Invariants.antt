use Rattle.std.proofs.Common.{take}
use Rattle.heap_formula.specs.Words.{Each}
use Rattle.script_formulas.specs.Formulas.{formula_of}
use Rattle.script_formulas.specs.Sorts.{IsSortedIn}
use Rattle.script_formulas.proofs.goals.sorts.check_predicates.Given as goal

abbrev pub invariant-loop-number : goal.invariant-loop-number
invariant-loop-number l = Each (λ q. IsSortedIn l.script q.parameters.items (formula_of q.body))
    (take l.number l.script.predicates.items)
