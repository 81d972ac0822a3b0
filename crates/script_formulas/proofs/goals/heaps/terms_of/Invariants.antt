use Rattle.std.proofs.Common.{take}
use Rattle.script_formulas.specs.Translating.{AreTermsOf}
use Rattle.script_formulas.proofs.goals.heaps.terms_of.Given as goal

abbrev pub invariant-loop-term : goal.invariant-loop-term
invariant-loop-term l = AreTermsOf l.variables (take l.term-index l.terms) l.made.items
