use Rattle.std.proofs.Common.{◌≡◌, ◌∙◌, sym, subst, ap, List}
use Rattle.std.proofs.lemmas.Bool.{true≢false}
use Rattle.heap_formula.proofs.Equal.{term_eq-Decides}
use Rattle.heap_formula.specs.declared.terms.Term.{Term}
use Rattle.refute_unfoldings.specs.Consistency.{Known, IsConsistent, AreTwo, class_in}
use Rattle.refute_unfoldings.proofs.Consistent.{pair_added}
use Rattle.refute_unfoldings.proofs.unfolding.Unfolding.separate.Goals as goal

pub invariant_of-self-2 : goal.invariant_of-self-2
invariant_of-self-2 c =
    let known : Known = record {
      classes = c.self.inside.classes.items;
      cells = c.self.inside.cells.items;
      apart = c.self.inside.apart.items;
    } in
    let seen : known ≡ c.args.self.now = c.self.view_is in
    let one : class_in known.classes c.args.t ≡ c.class.result = ap (λ (k : Known). class_in k.classes c.args.t) seen
    ∙ sym c.class.ensures in
    let other : class_in known.classes c.args.u ≡ c.class-2.result = ap (λ (k : Known). class_in k.classes c.args.u)
    seen ∙ sym c.class-2.ensures in
    let d = term_eq-Decides c.class.result c.class-2.result in
    let two : AreTwo known.classes c.args.t c.args.u =
    (λ same. true≢false (sym (d.1 (sym one ∙ same ∙ other)) ∙ sym c.eq.ensures ∙ c.if-eq.false)) in
    subst (λ (pairs : List (Term × Term)). IsConsistent
    (record { classes = known.classes; cells = known.cells; apart = pairs })) (sym c.in_ok-push.ensures.items)
    (pair_added known c.args.t c.args.u c.self.invariant two)
