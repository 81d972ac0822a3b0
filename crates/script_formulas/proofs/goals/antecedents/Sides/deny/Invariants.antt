use Rattle.std.proofs.Common.{take}
use Rattle.script_formulas.specs.Scope.{AreFine}
use Rattle.script_formulas.specs.Sides.{AreDenied, AreWithout}
use Rattle.script_formulas.proofs.goals.antecedents.Sides.deny.Given as goal

abbrev pub invariant-loop-case : goal.invariant-loop-case
invariant-loop-case l = AreFine 0 l.self.asserted.items × AreWithout (take l.case-index l.case-items)
    l.fn.self.asserted.items l.fn.self.denied.items l.self.asserted.items l.self.denied.items
    × AreDenied l.self.denied.items
