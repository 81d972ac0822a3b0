use Rattle.std.proofs.Common.{◌≡◌, drop}
use Rattle.back_links.specs.Prospects.{lookup}
use Rattle.back_links.proofs.prospects.lookup.Given as goal

abbrev pub invariant-loop-from : goal.invariant-loop-from
invariant-loop-from l = lookup (drop l.from-index l.pairs) l.n ≡ lookup l.pairs l.n
