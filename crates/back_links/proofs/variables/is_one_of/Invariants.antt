use Rattle.std.proofs.Common.{◌≡◌, drop}
use Rattle.std.specs.List.{list_any}
use Rattle.heap_formula.specs.declared.terms.Term.TheVariants.{Univ}
use Rattle.rule_table.specs.Tests.{same_term}
use Rattle.back_links.proofs.variables.is_one_of.Given as goal

abbrev pub invariant-loop-t : goal.invariant-loop-t
invariant-loop-t l = list_any (λ t. same_term t (Univ l.n)) (drop l.t-index l.terms)
    ≡ list_any (λ t. same_term t (Univ l.n)) l.terms
