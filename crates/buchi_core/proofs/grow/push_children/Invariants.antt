use Rattle.std.proofs.Common.{◌≡◌, ◌+◌, drop, length}
use Rattle.buchi_core.specs.Forest.{children, scan_from, trimmed}
use Rattle.buchi_core.specs.View.{entries_of, members}
use Rattle.buchi_core.specs.Young.{AreLeft, made}
use Rattle.buchi_core.proofs.grow.push_children.Given as goal

abbrev pub invariant-loop-entry : goal.invariant-loop-entry
invariant-loop-entry l = record {
  long : length l.young.entries.items ≡ length l.fn.young.entries.items + l.entry-index;
  counted : l.number ≡ l.entry-index;
  left : AreLeft l.young;
  so_far : scan_from trimmed (made l.young) (children l._pairs (members l.positions) l.number
      (entries_of (drop l.entry-index l.forest)))
      ≡ scan_from trimmed (made l.fn.young) (children l._pairs (members l.positions) 0 (entries_of l.forest));
}
