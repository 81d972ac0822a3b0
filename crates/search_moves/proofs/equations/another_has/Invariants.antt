use Rattle.std.proofs.Common.{◌≡◌, drop}
use Rattle.search_moves.specs.States.{some_other_has}
use Rattle.search_moves.proofs.equations.another_has.Given as goal

abbrev pub invariant-loop-i : goal.invariant-loop-i
invariant-loop-i l = some_other_has l.n l.k l.i (drop l.i l.atoms) ≡ some_other_has l.n l.k 0 l.atoms
