use Rattle.std.proofs.Common.{◌≡◌, map, take}
use Rattle.heap_formula.specs.declared.terms.Term.TheVariants.{Univ}
use Rattle.script_formulas.proofs.goals.succedents.constant_terms.Given as goal

abbrev pub invariant-loop-constant : goal.invariant-loop-constant
invariant-loop-constant l = l.terms.items ≡ map Univ (take l.constant-index l.constants)
