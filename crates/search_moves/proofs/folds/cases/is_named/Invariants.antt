use Rattle.std.proofs.Common.{◌≡◌, drop}
use Rattle.std.specs.List.{list_any}
use Rattle.search_moves.specs.Folds.{is_named_by, is_named}
use Rattle.search_moves.proofs.folds.cases.is_named.Given as goal

abbrev pub invariant-loop-atom : goal.invariant-loop-atom
invariant-loop-atom l = list_any (is_named_by l.term) (drop l.atom-index l.atoms) ≡ is_named l.atoms l.term
