use Rattle.fo_formula.proofs.AllRules.{rule_is_sound}
use Rattle.fo_formula.proofs.table.laws.rules_are_sound.Goals as goal

pub returns : goal.returns
returns c = rule_is_sound
