use Rattle.std.proofs.Common.{◌≡◌, inl, inr, ℕ, Some, slice_get, arith, sym, subst, ap, List, ◌∙◌, length}
use Rattle.refute_unfoldings.specs.Consistency.{Known, JoinsClasses}
use Rattle.heap_formula.specs.declared.terms.Term.{Term}
use Rattle.std.proofs.lemmas.Bool.{cases_lt}
use Rattle.std.proofs.lemmas.Option.{get_or_from_slice_get}
use Rattle.std.proofs.lemmas.Bool.{true≢false}
use Rattle.std.proofs.lemmas.Option.{slice_get_within}
use Rattle.refute_unfoldings.proofs.unfolding.Unfolding.are_apart.Goals as goal

pub loop-pair-preserved : goal.loop-pair-preserved
loop-pair-preserved c =
    λ i pair below at joins.
    elim (cases_lt i c.loop-pair.pair-index) [
      | inl before ↦ c.loop-pair.invariant i pair before at joins
      | inr here ↦
          (let index = c.loop-pair.pair-index in
          let same : i ≡ index = omega arith in
          let items = c.deref-pair-items.ensures.value ∙ ap (λ (k : Known). k.apart) c.self.view_is in
          let read : slice_get c.deref-pair-items.result.now index
          ≡ Some pair = ap (λ (xs : List (Term × Term)). slice_get xs index) items
          ∙ subst (λ (k : ℕ). slice_get c.args.self.now.apart k ≡ Some pair) same at in
          let is = get_or_from_slice_get c.deref-pair-items.result.now index pair _ read in
          true≢false (sym (c.joins.ensures.1 (subst (λ (p : Term
          × Term). JoinsClasses c.args.self.now.classes c.args.t c.args.u p) (sym is) joins)) ∙ c.if-joins.false))
    ]

pub returns : goal.returns
returns c = (
  λ e. absurd (true≢false (sym e)),
  λ apart.
      (let within = slice_get_within c.args.self.now.apart apart.0 apart.1 apart.2 in
      let same = ap length (c.deref-pair-items.ensures.value ∙ ap (λ (k : Known). k.apart) c.self.view_is) in
      absurd (c.loop-pair.invariant apart.0 apart.1 (omega arith) apart.2 apart.3)),
)
