use Rattle.std.proofs.Common.{◌≡◌, ℕ, true, false, max, length, List, sym, ap, ◌∙◌, subst, arith}
use Rattle.std.proofs.lemmas.Grind.{common_steps}
use Rattle.heap_formula.specs.declared.atoms.Spatial.{Spatial}
use Rattle.heap_formula.specs.Fresh.{fresh_number, heap_bound}
use Rattle.heap_formula.specs.Judgements.{antecedent}
use Rattle.heap_formula.specs.Positions.{chosen, others_of}
use Rattle.heap_formula.specs.Substitution.{opened_term}
use Rattle.rule_table.specs.Answer.{limited, two}
use Rattle.rule_table.specs.Answered.{IsAnswer}
use Rattle.rule_table.specs.RuleCut.{cut_left, cut_right}
use Rattle.rule_table.specs.Tests.{has_number}
use Rattle.rule_table.proofs.Answers.{limited_long}
use Rattle.unfold_rule.specs.Cutting.{cut_fits}
use Rattle.unfold_rule.proofs.CutLimits.{cut_short, cut_made}
use Rattle.unfold_rule.proofs.cut.cut_at.Goals as goal

pub returns-then-not-fits : goal.returns-then-not-fits
returns-then-not-fits c =
    let j = c.args.judgement.now in
    let p = has_number c.args.places.now in
    let f = c.args.formula.now in
    let n = max (fresh_number c.args.p j) (heap_bound f) in
    let stay : c.len.result ≡ length (chosen (others_of p) (antecedent j).spatial) =
    (let b = ap (λ (xs : List Spatial). length xs) c.requires.stays in grind (arith, common_steps, b)) in
    let long : c.fits.result ≡ false = c.if-not-fits.true in
    limited_long c.args.most (two (cut_left (antecedent j) p f) (cut_right j p f n))
    (cut_short c.args.most j p f (opened_term n) ∙ ap (λ (m : ℕ). cut_fits c.args.most j m f) (sym stay)
    ∙ sym c.fits.ensures.value ∙ long)

pub returns : goal.returns
returns c =
    let j = c.args.judgement.now in
    let p = has_number c.args.places.now in
    let f = c.args.formula.now in
    let n = max (fresh_number c.args.p j) (heap_bound f) in
    let number : c.max-number.result ≡ n = cc in
    let yes' : c.fits.result ≡ true = c.if-not-fits.false in
    let stay : c.len.result ≡ length (chosen (others_of p) (antecedent j).spatial) =
    (let b = ap (λ (xs : List Spatial). length xs) c.requires.stays in grind (arith, common_steps, b)) in
    let fit : cut_fits c.args.most j (length (chosen (others_of p) (antecedent j).spatial)) f
    ≡ true = ap (λ (m : ℕ). cut_fits c.args.most j m f) (sym stay) ∙ sym c.fits.ensures.value ∙ yes' in
    let made = cut_made c.args.most j p f c.max-number.result c.numbered.result c.in_ok-cut_premises.field-0.items fit
    c.in_ok-cut_premises.ensures c.numbered.ensures in
    subst (λ (m : ℕ). IsAnswer c.numbered.result (limited c.args.most
    (two (cut_left (antecedent j) p f) (cut_right j p f m)))) number made
