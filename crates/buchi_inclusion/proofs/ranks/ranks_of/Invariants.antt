use Rattle.std.proofs.Common.{◌≡◌, []}
use Rattle.buchi_inclusion.proofs.ranks.ranks_of.Given as goal

abbrev pub invariant-loop-root : goal.invariant-loop-root
invariant-loop-root l = l.search.way.items ≡ []
