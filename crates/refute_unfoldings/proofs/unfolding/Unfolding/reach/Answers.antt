use Rattle.std.proofs.Common.{◌∷◌, [], sym, subst, ap, arith, List, length, length-append}
use Rattle.heap_formula.specs.declared.terms.Term.{Term}
use Rattle.heap_formula.specs.declared.terms.Term.TheVariants.{Univ}
use Rattle.refute_unfoldings.specs.Consistency.{Known, IsConsistent}
use Rattle.refute_unfoldings.proofs.Consistent.{variable_added}
use Rattle.refute_unfoldings.proofs.unfolding.Unfolding.reach.Goals as goal

pub loop-n-preserved : goal.loop-n-preserved
loop-n-preserved c =
    let inside = c.loop-n.self-inside in
    let known : Known = record {
      classes = inside.classes.items;
      cells = inside.cells.items;
      apart = inside.apart.items;
    } in
    let items = c.in_ok-push.ensures.items in
    let here = c.loop-n.invariant.0 in
    let longer = length-append inside.classes.items (Univ c.loop-n.n ∷ []) in
    let many = ap length items in (
      omega arith,
      subst (λ (classes : List Term). IsConsistent
          (record { classes = classes; cells = known.cells; apart = known.apart })) (sym items)
          (variable_added known c.loop-n.n (sym here) c.loop-n.invariant.1),
    )
