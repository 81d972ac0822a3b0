use Rattle.std.proofs.Common.{take}
use Rattle.script_formulas.specs.Defining.{AreDefinedIn}
use Rattle.script_formulas.proofs.goals.translation.define_predicates.Given as goal

abbrev pub invariant-loop-number : goal.invariant-loop-number
invariant-loop-number l = AreDefinedIn l.script.predicates.items l.numbers (take l.number-index l.number-items)
    l.building.defs.list
