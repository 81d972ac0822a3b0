use Rattle.std.proofs.Common.{sym, ap, subst, ◌∙◌}
use Rattle.std.proofs.lemmas.Result.{IfOk-weaker}
use Rattle.trace_pairs.specs.Graph.{IsPositionSet}
use Rattle.fo_logic.specs.FirstOrder.{predicate_places}
use Rattle.fo_logic.specs.Places.{places_set}
use Rattle.fo_logic.proofs.first_order.FirstOrderLogic.positions.Goals as goal

pub returns-clause-set : goal.returns-clause-set
returns-clause-set c =
    let s = c.args.sequent.now in
    IfOk-weaker c.predicate_positions.result _ _ (λ v e. subst IsPositionSet
    (sym (e ∙ ap (predicate_places 0) c.as_slice.ensures)) (places_set s.left c.requires.small.left))
    c.predicate_positions.ensures
