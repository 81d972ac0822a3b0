use Rattle.std.proofs.Common.{◌≡◌, ◌++◌, drop, map}
use Rattle.draw_top.specs.Graphs.{node_of}
use Rattle.draw_top.specs.Texts.{nodes_text}
use Rattle.draw_top.proofs.writing.write_vertices.Given as goal

-- The text so far and the texts of what is left.
abbrev pub invariant-loop-vertex : goal.invariant-loop-vertex
invariant-loop-vertex l = l.out ++ nodes_text (map node_of (drop l.vertex-index l.vertices)) ≡ l.fn.out
    ++ nodes_text (map node_of l.vertices)
