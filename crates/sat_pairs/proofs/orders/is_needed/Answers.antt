use Rattle.std.proofs.Common.{◌≡◌, ◌∙◌, sym, ap}
use Rattle.heap_formula.specs.declared.terms.Term.TheVariants.{Exist}
use Rattle.pair_family.specs.JoinOrder.{is_needed, is_shared}
use Rattle.sat_pairs.proofs.orders.is_needed.Goals as goal

pub returns-in-Exist : goal.returns-in-Exist
returns-in-Exist c =
    let left = c.args.left.now in
    let e : c.args.term ≡ Exist c.in-Exist.field-0 = c.in-Exist.is in
    c.is_shared-in-Exist.ensures ∙ (ap (is_shared left) e ∙ ap (is_needed c.args.k left) (sym e))
