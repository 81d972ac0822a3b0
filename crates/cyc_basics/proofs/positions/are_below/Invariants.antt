use Rattle.std.proofs.Common.{◌≡◌, ◌<◌, ℕ, Some, slice_get}
use Rattle.cyc_basics.specs.declared.limits.TheConstants.{MOST_POSITIONS}
use Rattle.cyc_basics.proofs.positions.are_below.Given as goal

abbrev pub invariant-loop-position : goal.invariant-loop-position
invariant-loop-position l = (k q : ℕ) → k < l.position-index → slice_get l.positions k ≡ Some q → q < MOST_POSITIONS
