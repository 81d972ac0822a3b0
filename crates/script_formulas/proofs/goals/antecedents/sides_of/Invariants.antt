use Rattle.std.proofs.Common.{map, take}
use Rattle.script_formulas.specs.Formulas.{formula_of}
use Rattle.script_formulas.specs.Scope.{AreFine}
use Rattle.script_formulas.specs.Sides.{AreDenied, AreSides}
use Rattle.script_formulas.proofs.goals.antecedents.sides_of.Given as goal

abbrev pub invariant-loop-number : goal.invariant-loop-number
invariant-loop-number l = AreFine 0 l.sides.asserted.items × AreSides (map formula_of l.script.asserted.items)
    (map formula_of (take l.number l.script.denied.items)) l.sides.asserted.items l.sides.denied.items
    × AreDenied l.sides.denied.items
