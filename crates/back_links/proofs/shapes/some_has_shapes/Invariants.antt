use Rattle.std.proofs.Common.{◌≡◌, drop}
use Rattle.std.specs.List.{list_any}
use Rattle.back_links.specs.Shapes.{same_shapes}
use Rattle.back_links.proofs.shapes.some_has_shapes.Given as goal

abbrev pub invariant-loop-b : goal.invariant-loop-b
invariant-loop-b l = list_any (λ b. same_shapes b.spatial l.c.spatial) (drop l.b-index l.heaps)
    ≡ list_any (λ b. same_shapes b.spatial l.c.spatial) l.heaps
