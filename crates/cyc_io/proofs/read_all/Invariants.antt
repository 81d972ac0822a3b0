use Rattle.std.proofs.Common.{◌≡◌, ◌-◌, ◌+◌, ◌≤◌, length}
use Rattle.std.specs.Io.KnownBytes.{Consumes}
use Rattle.cyc_io.proofs.read_all.Given as goal

-- What came so far is in `bytes`, and the count of faults stands.
abbrev pub invariant-loop-chunk : goal.invariant-loop-chunk
invariant-loop-chunk g l = record {
  within : length l.bytes.items ≤ l.limit + 1;
  came : Consumes (g.S.Source.left l.fn.src) (g.S.Source.left l.src) l.bytes.items;
  no_faults : g.S.Source.faults l.src ≡ g.S.Source.faults l.fn.src;
}

-- Each turn but the last takes a byte.
abbrev pub decreases-loop-chunk : goal.decreases-loop-chunk
decreases-loop-chunk g l = l.limit + 1 - length l.bytes.items
