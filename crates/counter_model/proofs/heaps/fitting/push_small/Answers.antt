use Rattle.std.proofs.Common.{subst}
use Rattle.heap_formula.specs.Cells.{Cells, IsHeap}
use Rattle.counter_model.proofs.UnionsOf.{cut_added, small_missing, small_kept}
use Rattle.counter_model.proofs.heaps.fitting.push_small.Goals as goal

pub returns-then-not-has_small_fields-clause-complete : goal.returns-then-not-has_small_fields-clause-complete
returns-then-not-has_small_fields-clause-complete c = λ h.
    small_missing c.args.greatest c.new-none.result c.args.heap.now c.in_ok-small.small h c.args.out.now.items
    c.has_small_fields.result c.new-none.ensures c.in_ok-small.ensures.below c.in_ok-small.ensures.above
    c.if-not-has_small_fields.true c.has_small_fields.ensures.1

pub returns-clause-complete : goal.returns-clause-complete
returns-clause-complete c = λ h w.
    cut_added c.args.greatest c.new-none.result c.args.heap.now c.in_ok-small.small h c.args.out.now.items
    c.push.new.self.items c.new-none.ensures c.in_ok-small.ensures.below c.in_ok-small.ensures.above
    c.in_ok-push.ensures.items w

pub returns-clause-within : goal.returns-clause-within
returns-clause-within c =
    small_kept c.args.greatest c.new-none.result c.in_ok-small.small c.args.out.now.items c.push.new.self.items
    c.new-none.ensures (subst (λ (h : Cells). IsHeap h) c.small.view_is c.small.invariant)
    c.in_ok-small.ensures.above (c.has_small_fields.ensures.0 c.if-not-has_small_fields.false)
    c.in_ok-push.ensures.items
