use Rattle.std.proofs.Common.{◌≡◌, ◌-◌, ◌+◌, ◌≤◌}
use Rattle.cyc_runs.specs.Runs.{input_limit}
use Rattle.cyc_runs.specs.Pieces.{WasFed}
use Rattle.cyc_runs.proofs.pieces.feed_all.Given as goal

-- The tool was fed all that came so far, and the count of faults stands.
abbrev pub invariant-turns : goal.invariant-turns
invariant-turns g l = record {
  fed : WasFed (g.T.PiecewiseTool.answers l.fn.tool) (g.T.PiecewiseTool.answers l.tool) 0 l.count
      (g.S.Source.left l.fn.src) (g.S.Source.left l.src);
  had : g.T.PiecewiseTool.fed l.tool ≡ l.count;
  within : l.count ≤ input_limit;
  no_faults : g.S.Source.faults l.src ≡ g.S.Source.faults l.fn.src;
}

-- Each turn but the last takes a byte.
abbrev pub decreases-turns : goal.decreases-turns
decreases-turns g l = input_limit + 1 - l.count
