-- Definitions within the limits of a file.
use Rattle.std.specs.Prelude.{◌≤◌}
use Rattle.cyc_basics.specs.declared.limits.TheConstants.{MOST_ARGUMENTS}
use Rattle.heap_formula.specs.Definitions.{Definition}

abbrev pub HasFewParameters : Definition → Type 0
HasFewParameters d = d.arity ≤ MOST_ARGUMENTS
