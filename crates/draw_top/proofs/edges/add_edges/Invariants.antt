use Rattle.std.proofs.Common.{◌≡◌, ◌++◌, map, drop}
use Rattle.draw_top.specs.Graphs.{edge_of}
use Rattle.proof_picture.specs.Arrows.{drawn_of}
use Rattle.draw_top.specs.Drawings.{arrow_edges}
use Rattle.draw_top.proofs.edges.add_edges.Given as goal

-- The edges so far, and those that are left.
abbrev pub invariant-loop-arrow : goal.invariant-loop-arrow
invariant-loop-arrow l =
    map edge_of l.edges.items ++ arrow_edges l.from (map drawn_of (drop l.arrow-index l.arrows))
    ≡ map edge_of l.fn.edges.items ++ arrow_edges l.from (map drawn_of l.arrows)
