use Rattle.std.proofs.Common.{◌≡◌, sym, subst, ap, ◌∙◌}
use Rattle.std.proofs.lemmas.Bool.{true≢false}
use Rattle.refute_unfoldings.specs.Consistency.{Known, AreReplaced, MustDiffer, class_in}
use Rattle.heap_formula.specs.declared.terms.Term.{Term}
use Rattle.refute_unfoldings.proofs.Consistent.{equated, equated_back}
use Rattle.refute_unfoldings.proofs.unfolding.Unfolding.equate.Goals as goal
use Rattle.refute_unfoldings.proofs.unfolding.Unfolding.equate.Goals.{then-comes_first, else-comes_first}

pub invariant_of-self : goal.invariant_of-self
invariant_of-self c =
    let free : MustDiffer c.args.self.now c.args.t c.args.u
    → ⊥ = (λ must. true≢false (sym (c.differ.ensures.1 must) ∙ c.if-differ.false)) in
    let known : Known = record {
      classes = c.self.inside.classes.items;
      cells = c.self.inside.cells.items;
      apart = c.self.inside.apart.items;
    } in
    let seen : known ≡ c.args.self.now = c.self.view_is in
    let free' = subst (λ (k : Known). MustDiffer k c.args.t c.args.u → ⊥) (sym seen) free in
    let one : c.class-t.result ≡ class_in known.classes c.args.t = c.class-t.ensures
    ∙ ap (λ (k : Known). class_in k.classes c.args.t) (sym seen) in
    let other : c.class-u.result ≡ class_in known.classes c.args.u = c.class-u.ensures
    ∙ ap (λ (k : Known). class_in k.classes c.args.u) (sym seen) in
    let Are = (λ (p : Term × Term). AreReplaced p.1 p.0 known.classes c.replace_class.new.classes.items) in
    elim c.if-comes_first.branch [
      | then-comes_first w ↦
          equated known c.args.t c.args.u c.replace_class.new.classes.items free' c.self.invariant
          (subst Are (w.kept-is ∙ (λ i. (one i, other i))) c.replace_class.ensures)
      | else-comes_first w ↦
          equated_back known c.args.t c.args.u c.replace_class.new.classes.items free' c.self.invariant
          (subst Are (w.kept-is ∙ (λ i. (other i, one i))) c.replace_class.ensures)
    ]
