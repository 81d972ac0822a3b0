-- What limits a file may have.
use Rattle.std.specs.Prelude.{◌≤◌}
use Rattle.cyc_basics.specs.declared.limits.Limits.{Limits}
use Rattle.cyc_basics.specs.declared.limits.TheConstants.{MOST_ARGUMENTS, MOST_CASES, MOST_LOCALS, MOST_PURE}
use Rattle.cyc_basics.specs.declared.limits.TheConstants.{MOST_SPATIAL, MOST_CELLS}

-- no greater than what the types hold in any version
pub record AreLimits (most : Limits) : Type 0 where
  pub arguments : most.arguments ≤ MOST_ARGUMENTS
  pub cases : most.cases ≤ MOST_CASES
  pub locals : most.locals ≤ MOST_LOCALS
  pub pure : most.pure ≤ MOST_PURE
  pub spatial : most.spatial ≤ MOST_SPATIAL
  pub cells : most.cells ≤ MOST_CELLS

-- the first allow no more than the second
pub record AreWithin (least most : Limits) : Type 0 where
  pub arguments : least.arguments ≤ most.arguments
  pub cases : least.cases ≤ most.cases
  pub locals : least.locals ≤ most.locals
  pub pure : least.pure ≤ most.pure
  pub spatial : least.spatial ≤ most.spatial
  pub cells : least.cells ≤ most.cells
