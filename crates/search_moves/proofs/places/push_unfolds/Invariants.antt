use Rattle.std.proofs.Common.{◌≡◌, ◌++◌, drop}
use Rattle.search_moves.specs.Places.{each_from}
use Rattle.search_moves.specs.Entailments.{unfold_at, unfolds}
use Rattle.search_moves.proofs.places.push_unfolds.Given as goal

abbrev pub invariant-loop-k : goal.invariant-loop-k
invariant-loop-k l = l.rules.items ++ each_from unfold_at l.k (drop l.k l.atoms) ≡ l.initial.rules.items
    ++ unfolds l.atoms
