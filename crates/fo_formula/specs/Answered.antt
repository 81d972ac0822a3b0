-- The program's answer is the table's; out of memory is free.
use Rattle.std.specs.Prelude.{◌≡◌, Result, Ok, Err, Vec}
use Rattle.std.specs.declared.alloc.Global.{Global}
use Rattle.fo_formula.specs.declared.table.faults.FoRuleError.{FoRuleError}
use Rattle.fo_formula.specs.declared.table.faults.FoRuleError.TheVariants.{Fault, OutOfMemory}
use Rattle.fo_formula.specs.declared.table.premises.FoPremise.{FoPremise}
use Rattle.fo_formula.specs.Answers.{Answer}

-- the call's answer against the table's
abbrev pub IsAnswer : Result (Vec FoPremise Global) FoRuleError → Answer → Type 0
IsAnswer (Ok v) answer = answer ≡ Ok v.items
IsAnswer (Err (Fault f)) answer = answer ≡ Err f
IsAnswer (Err OutOfMemory) answer = Unit {0}
