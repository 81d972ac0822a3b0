use Rattle.std.proofs.Common.{◌≡◌, ◌++◌, map, drop}
use Rattle.draw_top.specs.Graphs.{edge_of}
use Rattle.draw_top.specs.Folds.{edges_at}
use Rattle.proof_picture.specs.Arrows.{drawn_of}
use Rattle.draw_top.proofs.folds.add_edges.Given as goal

-- The edges so far, and those that are left.
abbrev pub invariant-loop-arrow : goal.invariant-loop-arrow
invariant-loop-arrow l =
    map edge_of l.edges.items ++ edges_at l.v l.uses_lemma (map drawn_of (drop l.arrow-index l.arrows))
    ≡ map edge_of l.fn.edges.items ++ edges_at l.v l.uses_lemma (map drawn_of l.arrows)
