use Rattle.general_models.proofs.SameStates.{first_differ, both_agree}
use Rattle.general_models.proofs.runs.comparing.same_heaps.Goals as goal

pub returns-then-not-at_first : goal.returns-then-not-at_first
returns-then-not-at_first c =
    first_differ c.args.a.now c.args.b.now c.deref.result.now c.agree_at_all-at_first.result c.if-not-at_first.true
    c.agree_at_all-at_first.ensures

pub returns : goal.returns
returns c =
    both_agree c.args.a.now c.args.b.now c.in_ok-of_a.of_a.items c.in_ok-of_b.of_b.items c.deref.result.now
    c.deref-2.result.now c.agree_at_all-at_first.result c.agree_at_all-at_second.result c.if-not-at_first.false
    c.deref.ensures.value c.deref-2.ensures.value c.in_ok-of_a.ensures.value c.in_ok-of_b.ensures.value
    c.agree_at_all-at_first.ensures c.agree_at_all-at_second.ensures
