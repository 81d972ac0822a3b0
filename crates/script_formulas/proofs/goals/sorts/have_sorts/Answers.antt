use Rattle.std.proofs.Common.{◌+◌, ◌<◌, ◌&&◌, ◌∙◌, length, drop, sym, ap, arith}
use Rattle.script_formulas.specs.Sorts.{have_sorts}
use Rattle.script_formulas.proofs.SortTests.{other_length, at_place}
use Rattle.script_formulas.proofs.goals.sorts.have_sorts.Goals as goal

pub returns-then-terms-sorts : goal.returns-then-terms-sorts
returns-then-terms-sorts c =
    sym (other_length c.args.known.now c.args.bound.now c.args.terms.now c.args.sorts.now c.if-terms-sorts.true)

pub loop-place-preserved : goal.loop-place-preserved
loop-place-preserved c =
    let ts = c.args.terms.now in
    let sorts = c.args.sorts.now in
    let k = c.loop-place.place in
    let rest = have_sorts c.args.known.now c.args.bound.now (drop (k + 1) ts) (drop (k + 1) sorts) in
    let below : k < length ts = omega (arith, c.loop-place-test.true, c.if-terms-sorts.false) in
    c.loop-place.invariant
    ∙ at_place c.args.known.now c.args.bound.now ts sorts k _ _ below c.loop-place-test.true
    ∙ ap (λ b. b && rest) (sym c.has_sort.ensures ∙ c.if-not-has_sort.false)
