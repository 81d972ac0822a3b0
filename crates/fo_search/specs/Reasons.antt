-- The rules that a goal is offered, as reasons.
use Rattle.std.specs.Prelude.{List, map}
use Rattle.fo_formula.specs.declared.nodes.FoReason.{FoReason}
use Rattle.fo_formula.specs.declared.nodes.FoReason.TheVariants.{Rule}
use Rattle.fo_search.specs.Told.{rules_left}
use Rattle.fo_search.specs.declared.reasons.RuleReasons.{RuleReasons}
use Rattle.fo_search.specs.declared.reasons.RuleReasons.TheVariants.{Before, After}

-- those that are left
abbrev pub reasons_left : RuleReasons → List FoReason
reasons_left (Before rules) = rules.items
reasons_left (After rules) = map Rule (rules_left rules)
