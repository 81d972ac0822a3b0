use Rattle.std.proofs.Common.{arith, subst, List, ℕ, ◌⊎◌, ◌≡◌, ◌+◌, length, ap, ◌∙◌}
use Rattle.heap_formula.specs.Words.{Each}
use Rattle.cyc_basics.specs.Words.{IsMember}
use Rattle.counter_model.specs.Tightness.{IsStack, IsStep}
use Rattle.counter_model.proofs.Loops.{turn, done}
use Rattle.counter_model.proofs.StackSteps.{each_at}
use Rattle.counter_model.proofs.tight_stacks.all_steps.Goals as goal

pub loop-stack-preserved : goal.loop-stack-preserved
loop-stack-preserved c =
    let n = c.args.greatest in
    let i = each_at (IsStack n c.args.count) c.args.shorter.now c.loop-stack.stack-index c.stack-item.result
    (omega arith) c.stack-item.is c.requires in
    let long : length c.as_slice.result.now ≡ c.args.count = ap (λ (s : List ℕ). length s) c.as_slice.ensures ∙ i.count
    in record {
      complete = λ e o. turn (λ s. IsStep n s e) c.args.shorter.now c.loop-stack.stack-index c.stack-item.result
          (omega arith) c.stack-item.is (subst (λ (s : List ℕ). (IsMember e c.loop-stack.out.items ⊎ IsStep n s e)
          → IsMember e c.add_steps.new.out.items) c.as_slice.ensures (c.in_ok-add_steps.ensures.complete e))
          (c.loop-stack.invariant.complete e o);
      sound = subst (λ (k : ℕ). Each (IsStack n (k + 1)) c.loop-stack.out.items
          → Each (IsStack n (k + 1)) c.add_steps.new.out.items)
          long c.in_ok-add_steps.ensures.sound c.loop-stack.invariant.sound;
    }

pub returns-clause-complete : goal.returns-clause-complete
returns-clause-complete c = λ e o.
    done (λ s. IsStep c.args.greatest s e) c.args.shorter.now c.loop-stack.stack-index (omega arith)
    (c.loop-stack.invariant.complete e o)
