use Rattle.std.proofs.Common.{◌≡◌, drop}
use Rattle.std.specs.List.{list_all}
use Rattle.search_moves.specs.Folds.{is_named}
use Rattle.search_moves.proofs.folds.cases.are_named.Given as goal

abbrev pub invariant-loop-term : goal.invariant-loop-term
invariant-loop-term l = list_all (is_named l.atoms) (drop l.term-index l.terms) ≡ list_all (is_named l.atoms) l.terms
