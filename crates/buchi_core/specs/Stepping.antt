-- The forest after a step.
use Rattle.std.specs.Prelude.{List}
use Rattle.buchi_core.specs.Forest.{Entry as AgeEntry}
use Rattle.buchi_core.specs.View.{forest_of}
use Rattle.buchi_core.specs.declared.stepping.Stepper.{Stepper}

-- the plain data of the forest after the last step
abbrev pub forest_in : Stepper → List AgeEntry
forest_in s = forest_of s.next
