use Rattle.std.proofs.Common.{arith, subst, sym, List, ℕ}
use Rattle.heap_formula.specs.Meaning.{Satisfies}
use Rattle.heap_formula.specs.Cells.{Cells}
use Rattle.counter_model.specs.Bounds.{SameUpTo, IsAmong}
use Rattle.counter_model.proofs.Loops.{turn, done}
use Rattle.counter_model.proofs.heaps.fitting.fitting_heaps.Goals as goal

pub loop-heap-preserved : goal.loop-heap-preserved
loop-heap-preserved c = record {
  complete = λ h w o. turn (λ x. SameUpTo c.args.greatest x h)
      c.as_slice-heap-items.result.now c.loop-heap.heap-index c.heap-item.result (omega arith) c.heap-item.is
      (c.in_ok-push_small.ensures.complete h w) (c.loop-heap.invariant.complete h w o);
  within = c.in_ok-push_small.ensures.within c.loop-heap.invariant.within;
}

pub returns-clause-complete : goal.returns-clause-complete
returns-clause-complete c = λ h w x.
    done (λ g. SameUpTo c.args.greatest g h) c.as_slice-heap-items.result.now c.loop-heap.heap-index (omega arith)
    (c.loop-heap.invariant.complete h w (subst (λ (hs : List Cells). IsAmong c.args.greatest hs h)
    (sym c.as_slice-heap-items.ensures) (c.in_ok-heaps.ensures h w
    (subst (λ (s : List ℕ). Satisfies c.args.defs.now.list s h c.args.ask.now) (sym c.as_slice.ensures) x))))
