-- The first placed atom with the variable says what its value has to equal.
use Rattle.std.proofs.Common.{◌≡◌, ◌<◌, List, Some, true, length, get_or, slice_get, refl, sym, ap, subst, ◌∙◌, arith}
use Rattle.std.proofs.lemmas.Option.{slice_get_read}
use Rattle.heap_formula.specs.declared.atoms.Spatial.{Spatial}
use Rattle.heap_formula.specs.Judgements.{antecedent}
use Rattle.heap_formula.specs.Symbolic.{SymbolicHeap}
use Rattle.back_links.specs.Prospects.{is_ruled_out, lookup}
use Rattle.back_links.proofs.Forced.{forced}
use Rattle.back_links.proofs.prospects.term_at.Goals as goal

pub returns : goal.returns
returns c pairs out =
    let a = antecedent c.args.search.now.bud.now in
    let b = antecedent c.args.search.now.companion.now in
    let x = c.index-xs-first.result in
    let y = c.index-atoms-m.result in
    let m = get_or c.args.places.now c.args.first 0 in
    let same_atoms : c.spatial-atoms.result.now ≡ a.spatial = c.spatial-atoms.ensures.value
    ∙ ap (λ (h : SymbolicHeap). h.spatial) c.antecedent.ensures in
    let same_xs : c.spatial-xs.result.now ≡ b.spatial = c.spatial-xs.ensures.value
    ∙ ap (λ (h : SymbolicHeap). h.spatial) c.antecedent-2.ensures in
    let placed : c.args.first < length c.args.places.now = omega (arith, c.if-first-places.false) in
    let within : c.args.first < length b.spatial = subst (λ (xs : List Spatial). c.args.first < length xs) same_xs
    (omega (arith, c.if-first-xs.false)) in
    let at : get_or b.spatial c.args.first x ≡ x = subst (λ (xs : List Spatial). get_or xs c.args.first x ≡ x) same_xs
    (sym c.index-xs-first.is) in
    let there : slice_get a.spatial m ≡ Some y = subst (λ (ys : List Spatial). slice_get ys m ≡ Some y) same_atoms
    (slice_get_read c.spatial-atoms.result.now (length c.spatial-atoms.result.now) m y refl
    (omega (arith, c.if-m-atoms.false)) c.index-atoms-m.is) in
    sym (c.requires.1.1 pairs)
    ∙ forced c.args.n a.pure a.spatial pairs c.args.places.now b.spatial c.args.first x y placed within at there
    (subst (λ t. is_ruled_out a.pure (lookup pairs c.args.n) t ≡ true) c.opposite.ensures out)
