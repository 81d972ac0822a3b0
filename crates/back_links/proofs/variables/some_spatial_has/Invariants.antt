use Rattle.std.proofs.Common.{◌≡◌, drop}
use Rattle.std.specs.List.{list_any}
use Rattle.back_links.specs.Listing.{stands_in_spatial}
use Rattle.back_links.proofs.variables.some_spatial_has.Given as goal

abbrev pub invariant-loop-x : goal.invariant-loop-x
invariant-loop-x l = list_any (stands_in_spatial l.n) (drop l.x-index l.atoms)
    ≡ list_any (stands_in_spatial l.n) l.atoms
