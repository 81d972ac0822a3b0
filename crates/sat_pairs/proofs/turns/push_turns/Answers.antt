use Rattle.std.proofs.Common.{◌≡◌, ◌<◌, [], length, sym, subst, arith}
use Rattle.std.specs.Prelude.{slice_index_or}
use Rattle.sat_pairs.specs.Turns.{IsNewTurn}
use Rattle.sat_pairs.proofs.TakenOut.{read_at}
use Rattle.sat_pairs.proofs.Turned.{pushed_each, pushed_had, pushed_has}
use Rattle.sat_pairs.proofs.turns.push_turns.Goals as goal

pub turn_of-requires-clause-place : goal.turn_of-requires-clause-place
turn_of-requires-clause-place c =
    subst (λ z. c.loop-place.place < length z) c.cases-cases.ensures c.loop-place-test.true

pub turn_of-requires-clause-case : goal.turn_of-requires-clause-case
turn_of-requires-clause-case c =
    let x = c.index-cases-place.result in
    subst (λ z. x ≡ slice_index_or z c.loop-place.place (record { pure = []; spatial = [] })) c.cases-cases.ensures
    (read_at c.cases-cases.result.now c.loop-place.place x (record { pure = []; spatial = [] })
    c.loop-place-test.true (sym c.index-cases-place.is))

pub loop-place-preserved : goal.loop-place-preserved
loop-place-preserved c =
    let ds = c.args.defs.now.list in
    let xs = c.loop-place.turns.items in
    let new = c.push.new.self.items in
    let x = c.in_ok-turn.turn in
    let e = c.in_ok-push.ensures.items in
    record {
      new = pushed_each xs new x e (IsNewTurn ds c.args.most) c.loop-place.invariant.new c.in_ok-turn.ensures.new;
      had = λ p h. pushed_had xs new x e ds p (c.loop-place.invariant.had p h);
      has = pushed_has xs new x e c.args.pred c.loop-place.place c.in_ok-turn.ensures.pred c.in_ok-turn.ensures.place
          c.loop-place.invariant.has;
    }

pub returns-clause-has : goal.returns-clause-has
returns-clause-has c =
    λ i l. let m = subst (λ z. i < length z) (sym c.cases-cases.ensures) l in
    let f = c.loop-place-test.false in
    c.loop-place.invariant.has i (omega arith)
