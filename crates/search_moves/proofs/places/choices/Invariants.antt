use Rattle.std.proofs.Common.{◌≡◌, ◌++◌, drop}
use Rattle.search_moves.specs.Places.{each_from}
use Rattle.search_moves.specs.Entailments.{choice_at, choices}
use Rattle.search_moves.proofs.places.choices.Given as goal

abbrev pub invariant-loop-k : goal.invariant-loop-k
invariant-loop-k l = l.rules.items ++ each_from choice_at l.k (drop l.k l.heaps) ≡ choices l.heaps
