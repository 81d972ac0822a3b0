use Rattle.std.proofs.Common.{◌≡◌, ◌∙◌, sym, subst, inl, inr, List, ◌⊎◌}
use Rattle.std.proofs.lemmas.Bool.{true≢false}
use Rattle.heap_formula.specs.declared.terms.Term.TheVariants.{Nil}
use Rattle.refute_unfoldings.specs.declared.unfolding.SymbolicCell.{SymbolicCell}
use Rattle.refute_unfoldings.specs.Consistency.{Known, IsConsistent, HasCell, class_in}
use Rattle.refute_unfoldings.proofs.Consistent.{cell_added}
use Rattle.refute_unfoldings.proofs.unfolding.Unfolding.allocate.Goals as goal

pub invariant_of-self-2 : goal.invariant_of-self-2
invariant_of-self-2 c =
    let known : Known = record {
      classes = c.self.inside.classes.items;
      cells = c.self.inside.cells.items;
      apart = c.self.inside.apart.items;
    } in
    let seen : known ≡ c.args.self.now = c.self.view_is in
    let cell : SymbolicCell = record { address = c.args.address; fields = c.args.fields } in
    let free : ((class_in c.args.self.now.classes c.args.address ≡ Nil)
    ⊎ HasCell c.args.self.now (class_in c.args.self.now.classes c.args.address))
    → ⊥ = (λ placed. true≢false (sym (c.is_nil_or_cell.ensures.1 placed) ∙ c.if-is_nil_or_cell.false)) in
    let nowhere : ((class_in known.classes c.args.address ≡ Nil)
    ⊎ HasCell known (class_in known.classes c.args.address)) → ⊥ =
    subst (λ (k : Known). ((class_in k.classes c.args.address ≡ Nil) ⊎ HasCell k (class_in k.classes c.args.address))
    → ⊥) (sym seen) free in
    subst (λ (cells : List SymbolicCell). IsConsistent
    (record { classes = known.classes; cells = cells; apart = known.apart })) (sym c.in_ok-push.ensures.items)
    (cell_added known cell c.self.invariant (λ nil. nowhere (inl (sym nil))) (λ here. nowhere (inr here)))
