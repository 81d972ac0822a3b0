-- Definitions as contracts see them: the limits that they keep, and the definitions in order.
use Rattle.std.specs.Prelude.{List}
use Rattle.cyc_basics.specs.declared.limits.Limits.{Limits}
use Rattle.heap_formula.specs.Definitions.{Definition}

pub record DefinitionBook : Type 0 where
  pub most : Limits
  pub list : List Definition
