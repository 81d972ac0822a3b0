-- Nothing happens at the place, so the event is that of the later ones.
use Rattle.std.proofs.Common.{◌≡◌, List, true, false, sym, ap, ◌∙◌}
use Rattle.std.proofs.lemmas.Bool.{and_left}
use Rattle.buchi_core.specs.Forest.{is_kept, is_full}
use Rattle.buchi_core.specs.declared.entry.Entry.{Entry}
use Rattle.buchi_core.specs.View.{entries_of}
use Rattle.buchi_core.specs.Young.{made}
use Rattle.buchi_core.proofs.Loops.{event_more}
use Rattle.buchi_core.proofs.settle.event_at.Goals as goal

pub loop-place-preserved : goal.loop-place-preserved
loop-place-preserved c =
    let k : is_kept (made c.args.young.now) c.loop-place.place ≡ true =
    sym (c.is_kept_at.ensures ∙ ap (λ (z : List Entry). is_kept (entries_of z) c.loop-place.place)
    c.as_slice.ensures.value) ∙ c.if-not-is_kept_at.false in
    let f : is_full (made c.args.young.now) c.loop-place.place ≡ false = sym c.is_full_at.ensures
    ∙ c.if-is_full_at.false in
    event_more (made c.args.young.now) c.loop-place.place c.args.count c.loop-place-test.true k (and_left _ _ f)
    ∙ c.loop-place.invariant
