use Rattle.std.proofs.Common.{◌≡◌, drop, length}
use Rattle.buchi_core.specs.Forest.{Entry, losses, lost_below, scan_from}
use Rattle.buchi_core.specs.View.{entries_of}
use Rattle.buchi_core.specs.Young.{made}
use Rattle.buchi_core.proofs.settle.find_losses.Given as goal

abbrev pub invariant-loop-entry : goal.invariant-loop-entry
invariant-loop-entry l = record {
  long : length l.done.items ≡ l.entry-index;
  so_far : scan_from (λ done (e : Entry). lost_below (made l.young) done e.parent) l.done.items
      (entries_of (drop l.entry-index l.entry-items)) ≡ losses (made l.young);
}
