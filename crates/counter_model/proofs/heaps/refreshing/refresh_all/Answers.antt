use Rattle.std.proofs.Common.{◌≡◌, ◌||◌, arith}
use Rattle.counter_model.proofs.Loops.{either_true, either_false}
use Rattle.counter_model.proofs.Settled.{settled_turn, settled_all}
use Rattle.counter_model.proofs.heaps.refreshing.refresh_all.Goals.{then-grown, else-grown}
use Rattle.counter_model.proofs.heaps.refreshing.refresh_all.Goals as goal

pub loop-q-preserved : goal.loop-q-preserved
loop-q-preserved c =
    let b : c.if-grown.grown ≡ (c.loop-q.grown || c.in_ok-is_new.is_new) = elim c.if-grown.branch [
      | then-grown w ↦ either_true _ _ _ w.if-grown.true w.grown-is
      | else-grown w ↦ either_false _ _ _
          w.if-grown.false w.grown-is
    ] in
    settled_turn c.args.defs.now.list c.args.greatest c.args.table.now c.loop-q.table c.refresh_question.new.table
    c.loop-q.grown c.in_ok-is_new.is_new c.if-grown.grown c.loop-q.q b c.loop-q.invariant c.in_ok-is_new.ensures

pub returns : goal.returns
returns c =
    settled_all c.args.defs.now.list c.args.greatest c.args.table.now c.loop-q.table c.loop-q.grown c.loop-q.q
    (let e = c.len-q-end.ensures in omega arith) c.loop-q.invariant
