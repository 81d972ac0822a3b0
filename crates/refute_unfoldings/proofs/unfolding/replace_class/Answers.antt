use Rattle.std.proofs.Common.{◌≡◌, ◌+◌, ◌∙◌, sym, subst, refl, arith, Some, slice_get, length, Vec, Global}
use Rattle.std.proofs.lemmas.Option.{slice_get_read}
use Rattle.std.proofs.lemmas.Bool.{true≢false}
use Rattle.heap_formula.proofs.Equal.{term_eq-Decides}
use Rattle.heap_formula.specs.declared.terms.Term.{Term}
use Rattle.refute_unfoldings.proofs.Consistent.{AreSoFar, one_replaced, one_left}
use Rattle.refute_unfoldings.proofs.unfolding.replace_class.Goals as goal
use Rattle.refute_unfoldings.proofs.unfolding.replace_class.Goals.{then-eq, else-eq}

pub loop-place-preserved : goal.loop-place-preserved
loop-place-preserved c =
    let from = c.args.classes.now.items in
    let to = c.loop-place.classes.items in
    let n = c.loop-place.place in
    let x = c.index.result.now in
    let longs = c.loop-place.invariant.0 in
    let at : slice_get to n ≡ Some x = slice_get_read to (length to) n x refl (omega arith) c.index.ensures in
    let d = term_eq-Decides x c.args.gone in
    let Are = (λ (v : Vec Term Global). AreSoFar c.args.gone c.args.kept from v.items (n + 1)) in
    elim c.if-eq.branch [
      | then-eq w ↦ subst Are (sym w.classes-is)
          (one_replaced c.args.gone c.args.kept from to n x c.loop-place.invariant at
          (d.0 (sym c.eq.ensures ∙ w.if-eq.true)))
      | else-eq w ↦ subst Are (sym w.classes-is) (one_left c.args.gone c.args.kept from to n x c.loop-place.invariant at
          (λ same. true≢false (sym (d.1 same) ∙ sym c.eq.ensures ∙ w.if-eq.false)))
    ]
