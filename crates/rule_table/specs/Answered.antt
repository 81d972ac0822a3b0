-- The program's answer is the table's; out of memory is free.
use Rattle.std.specs.Prelude.{◌≡◌, Result, Ok, Err, Vec}
use Rattle.heap_formula.specs.declared.judgements.Premise.{Premise}
use Rattle.heap_formula.specs.declared.proof_rules.RuleError.{RuleError}
use Rattle.heap_formula.specs.declared.proof_rules.RuleError.TheVariants.{Fault, OutOfMemory}
use Rattle.std.specs.declared.alloc.Global.{Global}
use Rattle.rule_table.specs.Answer.{Answer}

-- the call's answer against the table's
abbrev pub IsAnswer : Result (Vec Premise Global) RuleError → Answer → Type 0
IsAnswer (Ok v) answer = answer ≡ Ok v.items
IsAnswer (Err (Fault f)) answer = answer ≡ Err f
IsAnswer (Err OutOfMemory) answer = Unit {0}
