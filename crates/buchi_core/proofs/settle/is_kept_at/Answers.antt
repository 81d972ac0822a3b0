-- The entry isn't empty, and isn't lost.
use Rattle.std.proofs.Common.{◌≡◌, Some, not, nat_eq, slice_get, ap, sym, ◌∙◌}
use Rattle.std.proofs.lemmas.Bool.{eq-eqb, ne_eqb}
use Rattle.buchi_core.specs.Forest.{is_set}
use Rattle.buchi_core.specs.Mask.{set_mask}
use Rattle.buchi_core.proofs.Full.{get_is, kept_is, test_then, test_else}
use Rattle.buchi_core.proofs.settle.is_kept_at.Goals as goal

pub returns-then-set-ne0 : goal.returns-then-set-ne0
returns-then-set-ne0 c =
    let at : slice_get c.args.entries.now c.args.place
    ≡ Some c.in-Some.entry.now = get_is c.args.entries.now c.args.place c.in-Some.entry.now
    c.in-Some.ensures.lookup.0 c.in-Some.ensures.lookup.1 in
    ap not c.is_set_at.ensures ∙
    test_then (nat_eq (set_mask c.in-Some.entry.now) 0) (not (is_set (slice_get c.args.lost.now c.args.place))) _
    (kept_is c.args.entries.now c.args.lost.now c.args.place c.in-Some.entry.now c.requires.lost at)
    (ne_eqb (set_mask c.in-Some.entry.now) 0 (λ e. c.if-set-ne0.true (c.set.ensures ∙ e)))

pub returns-else-set-ne0 : goal.returns-else-set-ne0
returns-else-set-ne0 c =
    let at : slice_get c.args.entries.now c.args.place
    ≡ Some c.in-Some.entry.now = get_is c.args.entries.now c.args.place c.in-Some.entry.now
    c.in-Some.ensures.lookup.0 c.in-Some.ensures.lookup.1 in
    ap (λ m. not (nat_eq m 0)) c.set.ensures ∙
    test_else (nat_eq (set_mask c.in-Some.entry.now) 0) (not (is_set (slice_get c.args.lost.now c.args.place))) _
    (kept_is c.args.entries.now c.args.lost.now c.args.place c.in-Some.entry.now c.requires.lost at)
    (eq-eqb (set_mask c.in-Some.entry.now) 0 (sym c.set.ensures ∙ c.if-set-ne0.false))
