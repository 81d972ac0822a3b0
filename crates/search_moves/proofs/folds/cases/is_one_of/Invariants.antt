use Rattle.std.proofs.Common.{◌≡◌, drop}
use Rattle.std.specs.List.{list_any}
use Rattle.rule_table.specs.Tests.{same_term}
use Rattle.search_moves.proofs.folds.cases.is_one_of.Given as goal

abbrev pub invariant-loop-other : goal.invariant-loop-other
invariant-loop-other l = list_any (λ v. same_term v l.term) (drop l.other-index l.terms)
    ≡ list_any (λ v. same_term v l.term) l.terms
