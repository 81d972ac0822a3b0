-- The entry is appended where it stays, and skipped else.
use Rattle.std.proofs.Common.{arith, refl, sym, ap, ◌∙◌}
use Rattle.buchi_core.specs.View.{used}
use Rattle.buchi_core.proofs.Loops.{turn_kept, turn_skipped}
use Rattle.buchi_core.proofs.settle.settle_all.Goals as goal
use Rattle.buchi_core.proofs.settle.settle_all.Goals.{then-is_kept_at, else-is_kept_at}

pub loop-entry-preserved : goal.loop-entry-preserved
loop-entry-preserved c = record {
  counted = omega arith;
  so_far = elim c.if-is_kept_at.branch [
    | then-is_kept_at w ↦
        turn_kept c.args.entries.now (used c.loop-entry.next) (used c.if-is_kept_at.next)
        _ c.entry-item.result c.loop-entry.place c.loop-entry.entry-index _ c.loop-entry-test.true
        c.loop-entry.invariant.counted c.entry-item.is
        (ap used w.next-is ∙ w.append.ensures) w.renumbered_of-parent.ensures refl
        (sym c.is_kept_at.ensures ∙ w.if-is_kept_at.true) c.loop-entry.invariant.so_far
    | else-is_kept_at w ↦
        turn_skipped c.args.entries.now (used c.loop-entry.next) (used c.if-is_kept_at.next)
        c.loop-entry.place c.loop-entry.entry-index _ c.loop-entry-test.true c.loop-entry.invariant.counted
        (ap used w.next-is) (sym c.is_kept_at.ensures ∙ w.if-is_kept_at.false) c.loop-entry.invariant.so_far
  ];
}
