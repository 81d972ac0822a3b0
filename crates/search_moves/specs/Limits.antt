-- Definitions within the limits of every file.
use Rattle.std.specs.Prelude.{◌≤◌, length}
use Rattle.cyc_basics.specs.declared.limits.TheConstants.{MOST_ARGUMENTS, MOST_CASES}
use Rattle.heap_formula.specs.Definitions.{Definition}

-- a definition has no more parameters and cases than any version of the formats allows
pub record IsSmall (d : Definition) : Type 0 where
  pub parameters : d.arity ≤ MOST_ARGUMENTS
  pub cases : length d.cases ≤ MOST_CASES
