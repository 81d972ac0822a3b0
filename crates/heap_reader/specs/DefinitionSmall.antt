-- Definitions that fit the values' types.
use Rattle.std.specs.Prelude.{◌≤◌, length}
use Rattle.cyc_basics.specs.declared.limits.TheConstants.{MOST_CASES}
use Rattle.heap_formula.specs.Words.{Each}
use Rattle.heap_reader.specs.Small.{IsSmallHeap}
use Rattle.heap_syntax.specs.DefinitionTrees.{Definition}
use Rattle.heap_reader.specs.DefinitionValues.{term_value}

pub record IsSmallDefinition (d : Definition) : Type 0 where
  pub cases : Each (IsSmallHeap term_value) d.cases
  pub few : length d.cases ≤ MOST_CASES
