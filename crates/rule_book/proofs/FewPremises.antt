-- A reason leaves few premises where each predicate has few cases.
use Rattle.std.proofs.Common.{ℕ, List, Option, Some, None, arith}
use Rattle.cyc_basics.specs.declared.limits.Limits.{Limits}
use Rattle.heap_formula.specs.declared.commands.Command.{Command}
use Rattle.heap_formula.specs.declared.judgements.Judgement.{Judgement}
use Rattle.heap_formula.specs.declared.proof_rules.Reason.{Reason}
use Rattle.heap_formula.specs.declared.proof_rules.Reason.TheVariants.{Step, Back}
use Rattle.heap_formula.specs.declared.proof_rules.RuleFault.{RuleFault}
use Rattle.heap_formula.specs.Definitions.{Definition, HasFewCases}
use Rattle.heap_formula.specs.Words.{Each}
use Rattle.rule_table.specs.RuleBook.{program_link_fault}
use Rattle.rule_table.specs.LinkTable.{link_premise}
use Rattle.rule_book.specs.Answers.{unless_fault, reason_answer}
use Rattle.rule_table.proofs.FewPremises.{IsFew, rule_few}

pub reason_few : (most : Limits) (ds : List Definition) (lines : List Command) → Each HasFewCases ds
    → (j : Judgement) (reason : Reason) (companion : Option Judgement)
    → IsFew (reason_answer most ds lines j reason companion)
reason_few most ds lines h j (Step rule) companion = rule_few most ds lines h j rule
reason_few most ds lines h j (Back link) None = tt
reason_few most ds lines h j (Back link) (Some k) = by_fault (program_link_fault lines j k link)
  where
    by_fault : (f : Option RuleFault) → IsFew (unless_fault f (link_premise k link))
    by_fault None = omega arith
    by_fault (Some f) = tt
