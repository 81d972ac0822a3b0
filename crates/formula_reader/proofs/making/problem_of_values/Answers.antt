use Rattle.std.proofs.Common.{◌≡◌, ◌∙◌, ℕ, true, length, ap, subst}
use Rattle.std.specs.List.{list_all}
use Rattle.cyc_basics.specs.declared.limits.Limits.{Limits}
use Rattle.heap_formula.specs.Judgements.{antecedent}
use Rattle.pred_defs.specs.Book.{DefinitionBook}
use Rattle.heap_reader.specs.Small.{is_short_heap}
use Rattle.formula_reader.proofs.Universal.{universal_heap_passes}
use Rattle.formula_reader.specs.Problems.{goal_heaps}
use Rattle.formula_reader.proofs.FromWithin.{within_closed, within_known, within_short, within_line}
use Rattle.formula_reader.proofs.making.problem_of_values.Goals as goal

pub invariant_of-result : goal.invariant_of-result
invariant_of-result c =
    let book = c.set_most.new.self in
    let judgement = c.args.goal in
    let count = length c.args.program in
    let kept = c.problem_excess.ensures.exact.0 c.in_default.is in
    let limit_is = ap (λ (b : DefinitionBook). b.most) c.set_most.ensures ∙ c.limits.ensures.value in
    record {
      limit = limit_is;
      within = ∣ kept ∣₁;
      closed = within_closed book.most book.list kept.definitions;
      known = within_known book.most book.list count judgement kept.goal;
      universal = universal_heap_passes (antecedent judgement) kept.goal.universal;
      short = subst (λ (most : Limits). list_all (is_short_heap most) (goal_heaps judgement) ≡ true) limit_is
          (within_short book.most book.list count judgement kept.goal);
      line = within_line book.most book.list count judgement kept.goal;
    }
