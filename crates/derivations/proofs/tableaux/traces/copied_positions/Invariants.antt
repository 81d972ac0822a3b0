use Rattle.std.proofs.Common.{◌≡◌, ◌++◌, drop}
use Rattle.derivations.proofs.tableaux.traces.copied_positions.Given as goal

abbrev pub invariant-loop-position : goal.invariant-loop-position
invariant-loop-position l = l.copies.items ++ drop l.position-index l.positions ≡ l.positions
