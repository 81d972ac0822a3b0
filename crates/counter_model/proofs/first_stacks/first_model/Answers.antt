use Rattle.std.proofs.Common.{◌≡◌, arith, subst, sym, List, ℕ}
use Rattle.heap_formula.specs.Words.{Each}
use Rattle.counter_model.specs.Tightness.{IsStack}
use Rattle.counter_model.proofs.Loops.{turn}
use Rattle.counter_model.proofs.StackSteps.{each_at}
use Rattle.counter_model.proofs.first_stacks.first_model.Goals as goal

pub loop-stack-preserved : goal.loop-stack-preserved
loop-stack-preserved c =
    let all = subst (λ (ss : List (List ℕ)). Each (IsStack c.args.greatest c.args.count) ss)
    (sym c.deref-stack-items.ensures.value) c.in_ok-stacks.ensures.sound in
    let i = each_at (IsStack c.args.greatest c.args.count)
    c.deref-stack-items.result.now c.loop-stack.stack-index c.stack-item.result (omega arith) c.stack-item.is all in
    record {
      pair = c.in_ok-leader.ensures.pair c.args.count i c.loop-stack.invariant.pair;
      first = λ t g w k m. turn (λ y. y ≡ t) c.deref-stack-items.result.now c.loop-stack.stack-index c.stack-item.result
          (omega arith) c.stack-item.is (c.in_ok-leader.ensures.first t g w k) (c.loop-stack.invariant.first t g w k m);
    }
