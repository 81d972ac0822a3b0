use Rattle.std.proofs.Common.{[], map, take}
use Rattle.script_formulas.specs.Formulas.{formula_of}
use Rattle.script_formulas.specs.Scope.{AreFine}
use Rattle.script_formulas.specs.Sides.{AreSides}
use Rattle.script_formulas.proofs.goals.antecedents.asserted_cases.Given as goal

abbrev pub invariant-loop-number : goal.invariant-loop-number
invariant-loop-number l = AreFine 0 l.all.items × AreSides (map formula_of (take l.number l.script.asserted.items)) []
    l.all.items []
