use Rattle.std.proofs.Common.{arith, ◌≡◌, ◌||◌}
use Rattle.counter_model.specs.Bounds.{SameUpTo}
use Rattle.counter_model.specs.Findings.{IsFound}
use Rattle.counter_model.proofs.Loops.{either_true, either_false}
use Rattle.counter_model.proofs.Turns.{grown_turn, grown_end, alone}
use Rattle.counter_model.proofs.heaps.refreshing.add_all.Goals.{then-grown, else-grown}
use Rattle.counter_model.proofs.heaps.refreshing.add_all.Goals as goal

pub loop-heap-preserved : goal.loop-heap-preserved
loop-heap-preserved c =
    let b : c.if-grown.grown ≡ (c.loop-heap.grown || c.in_ok-is_new.is_new) = elim c.if-grown.branch [
      | then-grown w ↦ either_true _ _ _ w.if-grown.true w.grown-is
      | else-grown w ↦ either_false _ _ _
          w.if-grown.false w.grown-is
    ] in
    grown_turn c.args.table.now c.loop-heap.table c.add.new.self c.loop-heap.grown c.in_ok-is_new.is_new
    c.if-grown.grown b (λ t h. IsFound c.args.greatest t c.args.q h) (λ t x h. SameUpTo c.args.greatest x h)
    c.args.heaps.now c.loop-heap.heap-index c.heap-item.result (omega arith) c.heap-item.is c.loop-heap.invariant
    (alone c.loop-heap.table c.add.new.self c.in_ok-is_new.is_new c.args.greatest c.args.q c.heap-item.result
    c.in_ok-is_new.ensures.grown)

pub returns : goal.returns
returns c =
    grown_end c.args.table.now c.loop-heap.table c.loop-heap.grown (IsFound c.args.greatest c.args.table.now c.args.q)
    (λ x h. SameUpTo c.args.greatest x h) c.args.heaps.now c.loop-heap.heap-index (omega arith)
    c.loop-heap.invariant
