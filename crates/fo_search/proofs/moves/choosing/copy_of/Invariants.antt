use Rattle.std.proofs.Common.{◌≡◌, ◌++◌, drop}
use Rattle.fo_search.proofs.moves.choosing.copy_of.Given as goal

abbrev pub invariant-loop-term : goal.invariant-loop-term
invariant-loop-term l = l.all.items ++ drop l.term-index l.terms ≡ l.terms
