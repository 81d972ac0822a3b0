use Rattle.std.proofs.Common.{◌≡◌, ℕ, true, false, sym, ◌∙◌, subst}
use Rattle.heap_formula.specs.Fresh.{heap_exists}
use Rattle.rule_table.specs.Answer.{limited, one}
use Rattle.rule_table.specs.Answered.{IsAnswer}
use Rattle.rule_table.specs.Table.{right_term}
use Rattle.rule_table.proofs.Answers.{limited_long}
use Rattle.unfold_rule.specs.Unfolding.{right_by}
use Rattle.unfold_rule.proofs.RightLimits.{right_short, right_made}
use Rattle.unfold_rule.proofs.unfold_right.unfold_case.Goals as goal

pub returns-then-not-fits : goal.returns-then-not-fits
returns-then-not-fits c =
    let a = c.args.a.now in
    let b = c.args.b.now in
    let f = right_term c.args.args.now (heap_exists b) in
    let long : c.fits.result ≡ false = c.if-not-fits.true in
    limited_long c.args.most (one (right_by a b c.args.k f c.args.case.now))
    (right_short a b c.args.k c.args.case.now c.args.most f c.requires.k_in ∙ sym c.fits.ensures ∙ long)

pub returns : goal.returns
returns c =
    let a = c.args.a.now in
    let b = c.args.b.now in
    let fit : c.fits.result ≡ true = c.if-not-fits.false in
    let made = right_made c.args.most a b c.args.k c.args.args.now c.exists_in_heap.result c.args.case.now
    c.numbered.result c.in_ok-right_premises.field-0.items c.requires.k_in (sym c.fits.ensures ∙ fit)
    c.in_ok-right_premises.ensures c.numbered.ensures in
    subst (λ (m : ℕ). IsAnswer c.numbered.result (limited c.args.most
    (one (right_by a b c.args.k (right_term c.args.args.now m) c.args.case.now))))
    c.exists_in_heap.ensures.value made
