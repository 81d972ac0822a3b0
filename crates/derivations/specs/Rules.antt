-- The rules for the next goal.
use Rattle.std.specs.Prelude.{List, []}
use Rattle.derivations.specs.declared.rules.NextRules.{NextRules}
use Rattle.derivations.specs.declared.rules.NextRules.TheVariants.{NoGoal, At}

-- what is left to be told, where this is left of the rules of a goal
abbrev pub rules_in : {R C : Type 0} → (C → List R) → NextRules C → List R
rules_in left NoGoal = []
rules_in left (At rules) = left rules
