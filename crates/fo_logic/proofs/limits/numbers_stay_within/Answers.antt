use Rattle.fo_logic.proofs.Numbers.{rule_numbers, link_numbers}
use Rattle.fo_logic.proofs.limits.numbers_stay_within.Goals as goal

pub returns-clause-rules : goal.returns-clause-rules
returns-clause-rules c = rule_numbers

pub returns-clause-links : goal.returns-clause-links
returns-clause-links c = link_numbers
