use Rattle.std.proofs.Common.{◌≡◌, drop}
use Rattle.std.specs.List.{list_all}
use Rattle.back_links.specs.Shapes.{some_has_shapes}
use Rattle.back_links.proofs.shapes.all_have_shapes.Given as goal

abbrev pub invariant-loop-c : goal.invariant-loop-c
invariant-loop-c l = list_all (some_has_shapes l.heaps) (drop l.c-index l.cs) ≡ list_all (some_has_shapes l.heaps) l.cs
