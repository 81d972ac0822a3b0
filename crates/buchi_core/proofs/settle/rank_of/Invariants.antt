use Rattle.std.proofs.Common.{◌≡◌, ◌≤◌}
use Rattle.buchi_core.specs.Forest.{is_kept, rank}
use Rattle.buchi_core.specs.View.{entries_of}
use Rattle.buchi_core.proofs.settle.rank_of.Given as goal

abbrev pub invariant-loop-i : goal.invariant-loop-i
invariant-loop-i l = record { counted : l.rank ≡ rank (is_kept (entries_of l.entries)) l.i; low : l.rank ≤ l.i }
