use Rattle.std.proofs.Common.{ap, ◌∙◌, refl}
use Rattle.heap_formula.specs.Positions.{same_pairs}
use Rattle.heap_formula.specs.Symbolic.{SymbolicHeap}
use Rattle.normal_form.proofs.Applied.{rewritten_is}
use Rattle.normal_form.proofs.rewrite.rewritten_premise.Goals as goal

pub returns : goal.returns
returns c =
    rewritten_is c.args.p c.args.k c.args.judgement.now c.args.x c.args.v c.args.u c.in_ok-binding.field-0
    c.in_ok-applied.applied c.in_ok-with_antecedent.field-0 c.antecedent.result.now c.in_ok-heap.heap _
    c.in_ok-pairs_of_same.field-0 c.in_ok-binding.ensures c.in_ok-applied.ensures c.antecedent.ensures refl
    c.in_ok-heap.ensures c.in_ok-with_antecedent.ensures
    (c.in_ok-pairs_of_same.ensures ∙ ap same_pairs (c.spatial.ensures.value
    ∙ ap (λ (h : SymbolicHeap). h.spatial) c.antecedent-2.ensures))
