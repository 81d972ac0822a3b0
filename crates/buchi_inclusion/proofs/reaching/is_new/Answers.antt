-- The mark was not set.
use Rattle.std.proofs.Common.{◌≡◌, Some, List, Bool, slice_get, length, refl, ap, subst, ◌∙◌}
use Rattle.std.proofs.lemmas.Option.{slice_get_read}
use Rattle.buchi_inclusion.proofs.Work.{mark_set}
use Rattle.buchi_inclusion.proofs.reaching.is_new.Goals as goal

pub returns-in-Some-false-clause-new : goal.returns-in-Some-false-clause-new
returns-in-Some-false-clause-new c new =
    let found = c.in-Some-false.ensures.lookup in
    let read = slice_get_read c.deref.result.now (length c.deref.result.now)
    c.args.place c.in-Some-false.field-0.now refl found.3.0 found.1 in
    mark_set c.args.marks.now.items c.args.place
    (subst (λ (xs : List Bool). slice_get xs c.args.place ≡ Some c.in-Some-false.field-0.now) c.deref.ensures.value read
    ∙ ap Some c.in-Some-false.field-0-test)
