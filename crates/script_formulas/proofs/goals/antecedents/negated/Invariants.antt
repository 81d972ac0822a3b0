use Rattle.std.proofs.Common.{◌≡◌, take}
use Rattle.script_formulas.specs.Sides.{negations}
use Rattle.script_formulas.proofs.goals.antecedents.negated.Given as goal

abbrev pub invariant-loop-atom : goal.invariant-loop-atom
invariant-loop-atom l = l.made.items ≡ negations (take l.atom-index l.atom-items)
