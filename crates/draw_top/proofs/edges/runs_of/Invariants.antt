use Rattle.std.proofs.Common.{◌≡◌, ◌++◌, map, drop}
use Rattle.draw_top.specs.Graphs.{run_of}
use Rattle.draw_top.specs.Drawings.{pairs_runs}
use Rattle.draw_top.proofs.edges.runs_of.Given as goal

-- The runs so far, and those of the pairs that are left.
abbrev pub invariant-loop-pair : goal.invariant-loop-pair
invariant-loop-pair l = map run_of l.runs.items ++ pairs_runs (drop l.pair-index l.pairs) ≡ pairs_runs l.pairs
