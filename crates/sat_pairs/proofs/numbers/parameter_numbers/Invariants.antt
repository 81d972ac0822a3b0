use Rattle.std.proofs.Common.{◌≡◌, ◌++◌, ◌∷◌, ◌-◌, map}
use Rattle.heap_formula.specs.declared.terms.Term.TheVariants.{Nil}
use Rattle.pair_family.specs.Classes.{term_number}
use Rattle.heap_formula.specs.Fresh.{variables_from}
use Rattle.sat_pairs.proofs.numbers.parameter_numbers.Given as goal

abbrev pub invariant-loop-i : goal.invariant-loop-i
invariant-loop-i l = l.numbers.items ++ map term_number (variables_from l.i (l.k - l.i))
    ≡ map term_number (Nil ∷ variables_from 0 l.k)
