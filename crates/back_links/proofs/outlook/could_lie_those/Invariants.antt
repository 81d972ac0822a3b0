use Rattle.std.proofs.Common.{◌≡◌, drop}
use Rattle.std.specs.List.{list_all}
use Rattle.back_links.specs.Outlook.{could_lie}
use Rattle.back_links.proofs.outlook.could_lie_those.Given as goal

abbrev pub invariant-loop-x : goal.invariant-loop-x
invariant-loop-x l = list_all (could_lie l.pures l.atoms l.pairs l.places) (drop l.x-index l.xs)
    ≡ list_all (could_lie l.pures l.atoms l.pairs l.places) l.xs
