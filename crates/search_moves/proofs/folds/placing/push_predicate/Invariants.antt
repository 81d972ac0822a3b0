use Rattle.std.proofs.Common.{◌≡◌, ◌++◌, drop}
use Rattle.search_moves.specs.Places.{each_of}
use Rattle.search_moves.specs.Folds.{folds_of_case, folds_of}
use Rattle.search_moves.proofs.folds.placing.push_predicate.Given as goal

abbrev pub invariant-loop-case : goal.invariant-loop-case
invariant-loop-case l = l.rules.items ++ each_of (folds_of_case l.state l.predicate l.def.arity)
    (drop l.case-index l.def.cases) ≡ l.initial.rules.items ++ folds_of l.state l.predicate l.def
