use Rattle.std.proofs.Common.{◌≡◌, ◌++◌, drop}
use Rattle.search_moves.specs.Places.{each_from}
use Rattle.search_moves.specs.Entailments.{pure_right_at, pure_rights}
use Rattle.search_moves.proofs.places.pure_rights.Given as goal

abbrev pub invariant-loop-k : goal.invariant-loop-k
invariant-loop-k l = l.rules.items ++ each_from pure_right_at l.k (drop l.k l.pures) ≡ pure_rights l.pures
