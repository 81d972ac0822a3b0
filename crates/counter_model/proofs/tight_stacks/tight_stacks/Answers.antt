use Rattle.std.proofs.Common.{arith, subst, sym, List, ℕ, ◌+◌, take}
use Rattle.heap_formula.specs.Words.{OneOf}
use Rattle.counter_model.specs.Tightness.{IsStep}
use Rattle.counter_model.proofs.StackSteps.{stack_steps, stack_whole, same_count}
use Rattle.counter_model.proofs.tight_stacks.tight_stacks.Goals as goal

pub loop-known-preserved : goal.loop-known-preserved
loop-known-preserved c = record {
  complete = λ s i b. c.in_ok-all.ensures.complete (take (c.loop-known.known + 1) s)
      (subst (λ (ls : List (List ℕ)). OneOf (λ l. IsStep c.args.greatest l (take (c.loop-known.known + 1) s)) ls)
      (sym c.deref.ensures.value)
      (stack_steps c.args.greatest c.args.count c.loop-known.known s c.loop-known.all.items c.loop-known-test.true i b
      (c.loop-known.invariant.complete s i b)));
  sound = c.in_ok-all.ensures.sound;
}

pub returns-clause-complete : goal.returns-clause-complete
returns-clause-complete c = λ s i b.
    stack_whole c.args.greatest c.args.count c.loop-known.known s c.loop-known.all.items (omega arith) i
    (c.loop-known.invariant.complete s i b)

pub returns-clause-sound : goal.returns-clause-sound
returns-clause-sound c = same_count c.args.greatest c.loop-known.known c.args.count c.loop-known.all.items (omega arith)
    c.loop-known.invariant.sound
