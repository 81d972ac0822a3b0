-- The row is the state's.
use Rattle.std.proofs.Common.{◌≡◌, Some, slice_get, List, Vec, Global, subst, sym}
use Rattle.buchi_inclusion.specs.declared.product.Transition.{Transition}
use Rattle.buchi_inclusion.specs.Table.{states_of, AreItems}
use Rattle.buchi_inclusion.proofs.reaching.push_row.Goals as goal

pub push_targets-requires-clause-row : goal.push_targets-requires-clause-row
push_targets-requires-clause-row c =
    subst (AreItems c.args.class.now.graph.now (states_of c.args.class.now.table.now.states) c.args.place)
    (sym c.deref-in-Some.ensures.value)
    (c.requires.class.table.row_at c.args.place c.in-Some.row.now
    (subst (λ (xs : List (Vec Transition Global)). slice_get xs c.args.place ≡ Some c.in-Some.row.now)
    c.deref.ensures.value c.in-Some.ensures)).items
