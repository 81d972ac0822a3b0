use Rattle.std.proofs.Common.{arith, ◌≤◌, min, ap, ◌∙◌}
use Rattle.counter_model.proofs.StackSteps.{entry_added, entries_added, longer_sound}
use Rattle.counter_model.proofs.tight_stacks.add_steps.Goals as goal

pub loop-value-preserved : goal.loop-value-preserved
loop-value-preserved c =
    let m = c.min-last.ensures in
    let small : c.loop-value.value ≤ c.args.greatest = omega (arith, m, c.loop-value-test.true) in record {
      complete = λ e.
          entry_added c.args.stack.now e c.loop-value.value c.args.out.now.items c.loop-value.out.items
          c.push.new.self.items c.in_ok-extended.field-0 c.in_ok-extended.ensures c.in_ok-push.ensures.items
          (c.loop-value.invariant.complete e);
      sound = longer_sound c.args.greatest _ c.loop-value.value c.args.stack.now c.in_ok-extended.field-0
          c.args.out.now.items c.loop-value.out.items c.push.new.self.items c.requires small c.in_ok-extended.ensures
          c.in_ok-push.ensures.items c.loop-value.invariant.sound;
    }

pub returns-clause-complete : goal.returns-clause-complete
returns-clause-complete c = λ e.
    entries_added c.args.greatest c.greatest_entry.result c.min-last.result c.loop-value.value c.args.stack.now e
    c.args.out.now.items c.loop-value.out.items c.ranges.greatest.fits
    (c.min-last.ensures ∙ ap (λ x. min x c.args.greatest) c.saturating_add.ensures) c.greatest_entry.ensures
    (omega arith) (c.loop-value.invariant.complete e)
