use Rattle.std.proofs.Common.{◌≡◌, drop}
use Rattle.std.specs.List.{list_all}
use Rattle.back_links.specs.Shapes.{has_as_many}
use Rattle.back_links.proofs.shapes.has_shapes.Given as goal

abbrev pub invariant-loop-x : goal.invariant-loop-x
invariant-loop-x l = list_all (has_as_many l.atoms l.xs) (drop l.x-index l.xs)
    ≡ list_all (has_as_many l.atoms l.xs) l.xs
