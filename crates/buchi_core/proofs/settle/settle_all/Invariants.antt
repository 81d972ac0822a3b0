use Rattle.std.proofs.Common.{◌≡◌, ◌++◌, ◌-◌, map, length}
use Rattle.buchi_core.specs.Forest.{is_kept, places, settled, settle}
use Rattle.buchi_core.specs.View.{entries_of, forest_of}
use Rattle.buchi_core.proofs.settle.settle_all.Given as goal

abbrev pub invariant-loop-entry : goal.invariant-loop-entry
invariant-loop-entry l = record {
  counted : l.place ≡ l.entry-index;
  so_far : forest_of l.next ++ map (settled (entries_of l.entries))
      (places (is_kept (entries_of l.entries)) l.place (length l.entries - l.place)) ≡ settle (entries_of l.entries);
}
