use Rattle.std.proofs.Common.{◌≡◌, ◌+◌, drop, length, map}
use Rattle.buchi_core.specs.Forest.{moved, scan_from, trimmed}
use Rattle.buchi_core.specs.View.{entries_of, members}
use Rattle.buchi_core.specs.Young.{AreLeft, made}
use Rattle.buchi_core.proofs.grow.push_moved.Given as goal

abbrev pub invariant-loop-entry : goal.invariant-loop-entry
invariant-loop-entry l = record {
  long : length l.young.entries.items ≡ length l.fn.young.entries.items + l.entry-index;
  left : AreLeft l.young;
  so_far : scan_from trimmed (made l.young) (map (moved l._pairs (members l.positions))
      (entries_of (drop l.entry-index l.forest)))
      ≡ scan_from trimmed (made l.fn.young) (map (moved l._pairs (members l.positions)) (entries_of l.forest));
}
