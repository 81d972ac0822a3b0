use Rattle.std.proofs.Common.{◌≡◌, drop}
use Rattle.std.specs.List.{list_all}
use Rattle.rule_table.specs.Tests.{follows}
use Rattle.heap_formula.specs.Substitution.{in_pure}
use Rattle.search_moves.specs.Folds.{bound_term, case_follows}
use Rattle.search_moves.proofs.folds.cases.case_follows.Given as goal

abbrev pub invariant-loop-atom : goal.invariant-loop-atom
invariant-loop-atom l = list_all (λ x. follows l.fold.state.now.pure (in_pure (bound_term l.binding) x))
    (drop l.atom-index l.fold.case.now.pure) ≡ case_follows l.fold.state.now l.fold.case.now l.binding
