use Rattle.std.proofs.Common.{◌≡◌, Ok}
use Rattle.script_formulas.specs.Cases.{all_one_more}
use Rattle.script_formulas.proofs.cases.cases.below_quantifier.Given as goal

abbrev pub invariant-loop-case : goal.invariant-loop-case
invariant-loop-case l = all_one_more l.yielded ≡ Ok l.made.items
