use Rattle.std.proofs.Common.{◌≡◌}
use Rattle.script_formulas.proofs.goals.translation.name_predicates.Given as goal

abbrev pub invariant-loop-number : goal.invariant-loop-number
invariant-loop-number l = l.building.defs ≡ l.fn.building.defs
