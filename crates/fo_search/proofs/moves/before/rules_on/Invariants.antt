use Rattle.std.proofs.Common.{◌≡◌, ◌++◌, drop}
use Rattle.search_moves.specs.Places.{each_from}
use Rattle.fo_search.specs.Lines.{line_at, atoms_on, rules_on}
use Rattle.fo_search.proofs.moves.before.rules_on.Given as goal

abbrev pub invariant-loop-k : goal.invariant-loop-k
invariant-loop-k l = l.rules.items ++ each_from (line_at l.sequent.right l.line) l.k
    (drop l.k (atoms_on l.sequent l.line)) ≡ rules_on l.sequent l.line
