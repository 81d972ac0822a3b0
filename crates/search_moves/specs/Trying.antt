-- Which rules have no fault.
use Rattle.std.specs.Prelude.{List, Bool, true, false, Ok, Err}
use Rattle.cyc_basics.specs.declared.limits.Limits.{Limits}
use Rattle.heap_formula.specs.declared.commands.Command.{Command}
use Rattle.heap_formula.specs.declared.judgements.Judgement.{Judgement}
use Rattle.heap_formula.specs.declared.proof_rules.Rule.{Rule}
use Rattle.heap_formula.specs.Definitions.{Definition}
use Rattle.rule_table.specs.Answer.{Answer}
use Rattle.rule_table.specs.RuleBook.{rule_answer}

-- what a problem assumes: the limits of its version, the definitions, and the program
pub record Theory : Type 0 where
  pub most : Limits
  pub definitions : List Definition
  pub lines : List Command

abbrev pub has_premises : Answer → Bool
has_premises (Ok ps) = true
has_premises (Err f) = false

-- the rule has no fault at the judgement
abbrev pub is_applicable : Theory → Judgement → Rule → Bool
is_applicable t j rule = has_premises (rule_answer t.most t.definitions t.lines j rule)
