use Rattle.std.proofs.Common.{◌≡◌, ◌++◌, drop, map}
use Rattle.draw_top.specs.Graphs.{run_of}
use Rattle.draw_top.specs.Texts.{runs_text}
use Rattle.draw_top.proofs.writing.write_runs.Given as goal

-- The text so far and the texts of what is left.
abbrev pub invariant-loop-run : goal.invariant-loop-run
invariant-loop-run l = l.out ++ runs_text (map run_of (drop l.run-index l.runs)) ≡ l.fn.out
    ++ runs_text (map run_of l.runs)
