use Rattle.std.proofs.Common.{◌≡◌, ◌++◌, refl, sym, subst}
use Rattle.pair_family.specs.JoinOrder.{join_order}
use Rattle.pair_family.specs.Reordering.{Reorders}
use Rattle.sat_pairs.specs.declared.turns.Turn.{Turn}
use Rattle.sat_pairs.specs.Stages.{AreFresh}
use Rattle.sat_pairs.specs.Turns.{IsFirst, IsTurnOf, case_at}
use Rattle.sat_pairs.proofs.Turned.{new_turn}
use Rattle.sat_pairs.proofs.turns.turn_of.Goals as goal

pub returns-clause-new : goal.returns-clause-new
returns-clause-new c = λ table cell.
    let k = c.args.k in
    let a = c.args.case.now in
    let ordered = c.in_ok-ordered.ordered.items in
    let t : Turn = record {
      pred = c.args.pred;
      place = c.args.place;
      first = c.in_ok-first.first;
      begun = 0;
      stages = c.push_stages.new.stages;
      put = 0;
    } in
    let all = subst (Reorders ordered) c.spatial.ensures.value c.in_ok-ordered.ensures.all in
    let order = subst (λ z. ordered ≡ join_order k z) c.spatial.ensures.value c.in_ok-ordered.ensures.order in
    let first = subst (λ z. IsFirst k ordered z c.in_ok-first.first.items) c.pure.ensures.value
    (subst (λ z. IsFirst k z c.pure.result.now c.in_ok-first.first.items) c.deref.ensures.value
    c.in_ok-first.ensures) in
    let pushed = c.in_ok-push_stages.ensures in
    let more = subst (λ z. AreFresh c.args.most k z pushed.0) c.deref-2.ensures.value pushed.2 in
    let fresh = subst (λ z. AreFresh c.args.most k ordered (z ++ pushed.0)) (sym c.new-stages.ensures.items) more in
    let new = new_turn k c.args.most a table cell ordered t all order first
    (subst (AreFresh c.args.most k ordered) (sym pushed.1) fresh) refl refl in
    record {
      pred = c.requires.pred;
      place = c.requires.place;
      is = subst (λ z. IsTurnOf z (case_at c.args._defs.now.list c.args.pred c.args.place) c.args.most table cell t)
          c.requires.arity
          (subst (λ z. IsTurnOf k z c.args.most table cell t) c.requires.case new);
    }
