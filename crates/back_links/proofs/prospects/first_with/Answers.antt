use Rattle.std.proofs.Common.{◌≡◌, ◌<◌, List, length, get_or, sym, ap, subst, ◌∙◌, arith}
use Rattle.heap_formula.specs.declared.atoms.Spatial.{Spatial}
use Rattle.heap_formula.specs.Judgements.{antecedent}
use Rattle.heap_formula.specs.Symbolic.{SymbolicHeap}
use Rattle.back_links.proofs.ProspectLoops.{skips}
use Rattle.back_links.proofs.prospects.first_with.Goals as goal

pub loop-i-preserved : goal.loop-i-preserved
loop-i-preserved c =
    let a = antecedent c.args.search.now.bud.now in
    let b = antecedent c.args.search.now.companion.now in
    let x = c.index-xs-i.result in
    let same : c.spatial-xs.result.now ≡ b.spatial = c.spatial-xs.ensures.value
    ∙ ap (λ (h : SymbolicHeap). h.spatial) c.antecedent.ensures in
    let here : c.loop-i.i < length c.spatial-xs.result.now = omega (arith, c.if-i-xs.false) in
    let within : c.loop-i.i < length b.spatial = subst (λ (ys : List Spatial). c.loop-i.i < length ys) same here in
    let placed : c.loop-i.i < length c.args.places.now = omega (arith, c.loop-i-test.true) in
    let at : get_or b.spatial c.loop-i.i x ≡ x = subst (λ (ys : List Spatial). get_or ys c.loop-i.i x ≡ x) same
    (sym c.index-xs-i.is) in (
      omega (arith, placed),
      (
        omega (arith, within),
        λ pairs.
            skips c.args.n a.pure a.spatial pairs c.args.places.now b.spatial c.loop-i.i x placed within at
            (sym c.stands_in_spatial.ensures ∙ c.if-stands_in_spatial.false)
            ∙ c.loop-i.invariant.1.1 pairs,
      ),
    )
