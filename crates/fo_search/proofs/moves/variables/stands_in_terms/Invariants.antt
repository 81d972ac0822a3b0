use Rattle.std.proofs.Common.{◌≡◌, drop}
use Rattle.std.specs.List.{list_any}
use Rattle.fo_formula.specs.Tests.{has_variable}
use Rattle.fo_search.proofs.moves.variables.stands_in_terms.Given as goal

abbrev pub invariant-loop-term : goal.invariant-loop-term
invariant-loop-term l = list_any (has_variable l.n) (drop l.term-index l.terms) ≡ list_any (has_variable l.n) l.terms
