-- The entry has positions, and leaves none.
use Rattle.std.proofs.Common.{◌≡◌, ◌<◌, ◌^◌, List, Some, not, nat_eq, slice_get, arith, ap, subst, sym, ◌∙◌}
use Rattle.std.proofs.lemmas.Bool.{eq-eqb, ne_eqb}
use Rattle.std.specs.List.{list_all}
use Rattle.buchi_core.specs.Forest.{child_has}
use Rattle.buchi_core.specs.declared.entry.Entry.{Entry}
use Rattle.buchi_core.specs.View.{members}
use Rattle.buchi_core.specs.Young.{left_of, made}
use Rattle.buchi_core.specs.Mask.{set_mask}
use Rattle.buchi_core.proofs.Full.{get_is, full_is, full_parts, test_then, test_else}
use Rattle.buchi_core.proofs.settle.is_full_at.Goals as goal

pub returns-then-set-ne0 : goal.returns-then-set-ne0
returns-then-set-ne0 c =
    let at : slice_get c.args.young.now.entries.items c.args.place ≡ Some c.in-Some.entry.now =
    subst (λ (z : List Entry). slice_get z c.args.place ≡ Some c.in-Some.entry.now) c.deref.ensures.0
    (get_is c.deref.result.now c.args.place c.in-Some.entry.now c.in-Some.ensures.lookup.0
    c.in-Some.ensures.lookup.1) in
    let fits : left_of c.args.young.now (Some c.args.place) < 2 ^ 64 = omega
    (arith, c.left_at.ensures, c.left_at.type_inv) in
    ap (λ m. nat_eq m 0) c.left_at.ensures ∙
    test_then (nat_eq (set_mask c.in-Some.entry.now) 0) (nat_eq (left_of c.args.young.now (Some c.args.place)) 0) _
    (full_is c.args.young.now c.requires.left c.args.place c.in-Some.entry.now at fits)
    (ne_eqb (set_mask c.in-Some.entry.now) 0 (λ e. c.if-set-ne0.true (c.set.ensures ∙ e)))

pub returns-else-set-ne0 : goal.returns-else-set-ne0
returns-else-set-ne0 c =
    let at : slice_get c.args.young.now.entries.items c.args.place ≡ Some c.in-Some.entry.now =
    subst (λ (z : List Entry). slice_get z c.args.place ≡ Some c.in-Some.entry.now) c.deref.ensures.0
    (get_is c.deref.result.now c.args.place c.in-Some.entry.now c.in-Some.ensures.lookup.0
    c.in-Some.ensures.lookup.1) in
    ap (λ m. not (nat_eq m 0)) c.set.ensures ∙
    test_else (nat_eq (set_mask c.in-Some.entry.now) 0) (list_all (child_has (made c.args.young.now) c.args.place)
    (members (set_mask c.in-Some.entry.now))) _ (full_parts c.args.young.now c.args.place c.in-Some.entry.now at)
    (eq-eqb (set_mask c.in-Some.entry.now) 0 (sym c.set.ensures ∙ c.if-set-ne0.false))
