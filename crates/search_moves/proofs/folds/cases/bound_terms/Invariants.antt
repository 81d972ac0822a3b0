use Rattle.std.proofs.Common.{◌≡◌, ◌++◌, drop, map}
use Rattle.search_moves.specs.Folds.{bound_term}
use Rattle.search_moves.proofs.folds.cases.bound_terms.Given as goal

abbrev pub invariant-loop-term : goal.invariant-loop-term
invariant-loop-term l = l.made.items ++ map (bound_term l.binding) (drop l.term-index l.terms)
    ≡ map (bound_term l.binding) l.terms
