use Rattle.std.proofs.Common.{◌≡◌, ◌++◌, drop}
use Rattle.search_moves.specs.Places.{each_from, each_place}
use Rattle.fo_search.specs.Before.{axiom_at}
use Rattle.fo_search.proofs.moves.before.push_axioms.Given as goal

abbrev pub invariant-loop-j : goal.invariant-loop-j
invariant-loop-j l = l.rules.items ++ each_from (axiom_at l.left) l.j (drop l.j l.atoms) ≡ l.initial.rules.items
    ++ each_place (axiom_at l.left) l.atoms
