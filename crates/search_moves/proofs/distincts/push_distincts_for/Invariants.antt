use Rattle.std.proofs.Common.{◌≡◌, ◌++◌, drop}
use Rattle.search_moves.specs.Places.{each_from}
use Rattle.search_moves.specs.Entailments.{distincts_with, distincts_for}
use Rattle.search_moves.proofs.distincts.push_distincts_for.Given as goal

abbrev pub invariant-loop-i : goal.invariant-loop-i
invariant-loop-i l = l.rules.items ++ each_from (distincts_with l.wanted l.atoms) l.i (drop l.i l.atoms)
    ≡ l.initial.rules.items ++ distincts_for l.atoms l.wanted
