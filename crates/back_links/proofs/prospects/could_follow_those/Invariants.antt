use Rattle.std.proofs.Common.{◌≡◌, drop}
use Rattle.back_links.specs.Prospects.{could_follow_those}
use Rattle.back_links.proofs.prospects.could_follow_those.Given as goal

abbrev pub invariant-loop-x : goal.invariant-loop-x
invariant-loop-x l = could_follow_those l.n l.pures l.pairs (drop l.x-index l.xs)
    ≡ could_follow_those l.n l.pures l.pairs l.xs
