use Rattle.std.proofs.Common.{◌≡◌, ◌++◌, drop}
use Rattle.rule_logics.specs.Searches.{links_from}
use Rattle.rule_logics.proofs.search.links.Given as goal

abbrev pub invariant-loop-number : goal.invariant-loop-number
invariant-loop-number g l = l.links.items ++ links_from l.number (drop l.number l.made) ≡ links_from 0 l.made
