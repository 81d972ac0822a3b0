use Rattle.std.proofs.Common.{ℕ, sym, subst}
use Rattle.cyc_basics.specs.declared.limits.Limits.{Limits}
use Rattle.heap_formula.specs.declared.proof_rules.Rule.{Rule}
use Rattle.rule_table.specs.Answered.{IsAnswer}
use Rattle.rule_table.specs.RuleBook.{rule_answer}
use Rattle.rule_table.specs.Table.{cut_answer, distinct_answer, split_answer}
use Rattle.rule_book.proofs.answer.Goals as goal

pub returns-in-Cut : goal.returns-in-Cut
returns-in-Cut c =
    let j = c.args.judgement.now in
    let r = c.premises_cut.result in
    let most_is = subst
    (λ (most : Limits). IsAnswer r (cut_answer most c.variables_of-p.result j c.in-Cut.places c.in-Cut.formula))
    c.most-in-Cut.ensures.value c.premises_cut.ensures.answer in
    let by_number = subst (λ (p : ℕ). IsAnswer r (cut_answer c.args.defs.now.most p j c.in-Cut.places c.in-Cut.formula))
    c.variables_of-p.ensures most_is in
    subst (λ (rule : Rule). IsAnswer r
    (rule_answer c.args.defs.now.most c.args.defs.now.list c.args.program.now j rule)) (sym c.in-Cut.is) by_number

pub returns-in-Split : goal.returns-in-Split
returns-in-Split c =
    let j = c.args.judgement.now in
    let r = c.premises_split.result in
    let most_is = subst (λ (most : Limits). IsAnswer r (split_answer most j c.in-Split.t c.in-Split.u))
    c.most.ensures.value c.premises_split.ensures.answer in
    subst (λ (rule : Rule). IsAnswer r
    (rule_answer c.args.defs.now.most c.args.defs.now.list c.args.program.now j rule)) (sym c.in-Split.is) most_is

pub returns-in-Distinct : goal.returns-in-Distinct
returns-in-Distinct c =
    let j = c.args.judgement.now in
    let r = c.premises_distinct.result in
    let most_is = subst (λ (most : Limits). IsAnswer r (distinct_answer most j c.in-Distinct.i c.in-Distinct.k))
    c.most-in-Distinct.ensures.value c.premises_distinct.ensures.answer in
    subst (λ (rule : Rule). IsAnswer r
    (rule_answer c.args.defs.now.most c.args.defs.now.list c.args.program.now j rule)) (sym c.in-Distinct.is) most_is
