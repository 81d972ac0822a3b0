use Rattle.std.proofs.Common.{◌≡◌, ◌++◌, drop}
use Rattle.search_moves.specs.Places.{each_from}
use Rattle.search_moves.specs.Entailments.{distinct_at, distincts_with}
use Rattle.search_moves.proofs.distincts.push_distincts.Given as goal

abbrev pub invariant-loop-k : goal.invariant-loop-k
invariant-loop-k l = l.rules.items ++ each_from (distinct_at l.wanted l.i l.left) l.k (drop l.k l.atoms)
    ≡ l.initial.rules.items ++ distincts_with l.wanted l.atoms l.i l.left
