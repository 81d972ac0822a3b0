use Rattle.std.proofs.Common.{◌≡◌, true, false, map, sym, ◌∙◌, subst}
use Rattle.heap_formula.specs.Fresh.{fresh_number}
use Rattle.heap_formula.specs.Substitution.{case_term}
use Rattle.rule_table.specs.RuleUnfold.{unfold_premise}
use Rattle.rule_table.specs.Answer.{limited}
use Rattle.rule_table.specs.Answered.{IsAnswer}
use Rattle.rule_table.proofs.Answers.{limited_long}
use Rattle.unfold_rule.proofs.UnfoldLimits.{cases_short, unfold_made}
use Rattle.unfold_rule.proofs.unfold.unfold_cases.Goals as goal

pub returns-then-not-all_fit : goal.returns-then-not-all_fit
returns-then-not-all_fit c =
    let j = c.args.judgement.now in
    let n = fresh_number c.args.p j in
    let long : c.all_fit.result ≡ false = c.if-not-all_fit.true in
    limited_long c.args.most (map (unfold_premise j c.args.k c.args.args.now n) c.args.cases.now)
    (cases_short j c.args.k c.requires.k_in c.args.most (case_term c.args.args.now n) c.args.cases.now
    ∙ sym c.all_fit.ensures ∙ long)

pub returns : goal.returns
returns c =
    let j = c.args.judgement.now in
    let fits : c.all_fit.result ≡ true = c.if-not-all_fit.false in
    let made = unfold_made c.args.most j c.args.k c.args.args.now c.fresh.result c.args.cases.now c.numbered.result
    c.in_ok-unfolded_premises.field-0.items c.requires.k_in (sym c.all_fit.ensures ∙ fits)
    c.in_ok-unfolded_premises.ensures c.numbered.ensures in
    subst (λ m. IsAnswer c.numbered.result (limited c.args.most
    (map (unfold_premise j c.args.k c.args.args.now m) c.args.cases.now))) c.fresh.ensures.value made
