use Rattle.script_formulas.specs.Translating.{AreGiven}
use Rattle.script_formulas.proofs.goals.widths.widths_of.Given as goal

abbrev pub invariant-loop-fields : goal.invariant-loop-fields
invariant-loop-fields l = AreGiven l.widths.items l.taken
