use Rattle.std.proofs.Common.{◌≡◌, ◌++◌, drop, map}
use Rattle.draw_top.specs.Graphs.{edge_of}
use Rattle.draw_top.specs.Texts.{edges_text}
use Rattle.draw_top.proofs.writing.write_arrows.Given as goal

-- The text so far and the texts of what is left.
abbrev pub invariant-loop-arrow : goal.invariant-loop-arrow
invariant-loop-arrow l = l.out ++ edges_text (map edge_of (drop l.arrow-index l.arrows)) ≡ l.fn.out
    ++ edges_text (map edge_of l.arrows)
