use Rattle.std.proofs.Common.{◌∙◌, ap}
use Rattle.heap_formula.specs.declared.atoms.Spatial.{Spatial}
use Rattle.heap_formula.specs.Positions.{without, before, pairs_from, child_pairs}
use Rattle.std.proofs.Common.{List, ◌++◌, length}
use Rattle.rule_table.specs.Changes.{changed}
use Rattle.unfold_rule.proofs.UnfoldLimits.{unfolded_is}
use Rattle.unfold_rule.proofs.unfold.unfolded_premise.Goals as goal

pub returns : goal.returns
returns c =
    unfolded_is c.args.judgement.now c.args.k (changed c.args.change.now)
    c.args.case.now c.antecedent-a.result.now c.in_ok-heap.heap c.pure.result.now c.in_ok-kept.kept.items
    c.spatial-3.result.now c.in_ok-with_antecedent.field-0 c.in_ok-pairs.pairs c.antecedent-a.ensures
    c.pure.ensures.value
    (c.in_ok-kept.ensures.value ∙ ap (λ (xs : List Spatial). without c.args.k xs) c.spatial.ensures.value)
    c.spatial-3.ensures.value c.in_ok-heap.ensures c.in_ok-with_antecedent.ensures
    (c.in_ok-pairs.ensures ∙ ap (λ (xs : List Spatial). pairs_from (before c.args.k) 0 xs
    ++ child_pairs c.args.k (length xs) c.spatial-3.result.now) c.deref.ensures.value)
