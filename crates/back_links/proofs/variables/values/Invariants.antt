use Rattle.std.proofs.Common.{◌≡◌, ◌++◌, ◌∷◌, drop, map}
use Rattle.heap_formula.specs.declared.terms.Term.TheVariants.{Nil, Univ}
use Rattle.back_links.proofs.variables.values.Given as goal

abbrev pub invariant-loop-n : goal.invariant-loop-n
invariant-loop-n l = l.all.items ++ map Univ (drop l.n-index l.n-items) ≡ Nil ∷ map Univ l.n-items
