use Rattle.script_formulas.specs.Translating.{AreGiven}
use Rattle.script_formulas.proofs.goals.widths.give_widths.Given as goal

abbrev pub invariant-loop-number : goal.invariant-loop-number
invariant-loop-number l = AreGiven l.widths l.taken
