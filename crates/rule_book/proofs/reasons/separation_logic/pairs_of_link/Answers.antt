use Rattle.std.proofs.Common.{◌≡◌, Option, Some, None, Ok, Err, ap, ◌∙◌, sym, subst}
use Rattle.heap_formula.specs.declared.judgements.Premise.{Premise}
use Rattle.heap_formula.specs.declared.proof_rules.RuleError.{RuleError}
use Rattle.heap_formula.specs.declared.proof_rules.RuleFault.{RuleFault}
use Rattle.rule_table.specs.Answered.{IsAnswer}
use Rattle.rule_table.specs.LinkTable.{link_premise}
use Rattle.rule_table.specs.RuleBook.{program_link_fault}
use Rattle.rule_book.specs.Answers.{unless_fault}
use Rattle.rule_book.specs.SeparationLogic.{pairs_unless}
use Rattle.rule_book.proofs.reasons.separation_logic.pairs_of_link.Goals as goal

-- the premise and its pairs are kept back by the same fault
same_fault : (o : Option RuleFault) (premise : Premise) (f : RuleFault) → unless_fault o premise ≡ Err f
    → pairs_unless o premise ≡ Err f
same_fault None premise f e = absurd cc
same_fault (Some g) premise f e = let same : g ≡ f = cc in ap Err same

pub returns-in-Err-Fault : goal.returns-in-Err-Fault
returns-in-Err-Fault c =
    let answer = unless_fault
    (program_link_fault c.args.program.now c.args.bud.now c.args.companion.now c.args.link.now)
    (link_premise c.args.companion.now c.args.link.now) in
    same_fault _ _ _ (subst (λ (e : RuleError). IsAnswer (Err e) answer) c.in-Err-Fault.field-0-is
    c.in-Err-Fault.ensures.answer) ∙ ap Err (sym c.in-Err-Fault.fault-is)
