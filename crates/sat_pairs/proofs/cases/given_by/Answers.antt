use Rattle.std.proofs.Common.{◌∙◌, false, refl, sym, subst}
use Rattle.std.proofs.lemmas.Bool.{both_ways}
use Rattle.sat_pairs.specs.Atoms.{HasSome}
use Rattle.sat_pairs.proofs.LargeAtoms.{none_given, none_large}
use Rattle.sat_pairs.proofs.cases.given_by.Goals as goal

pub given_in_join-requires-clause-some : goal.given_in_join-requires-clause-some
given_in_join-requires-clause-some c =
    subst (λ z. HasSome c.args.table.now z c.args.case.now.spatial)
    (c.deref.ensures.value ∙ sym c.deref-2.ensures.value)
    (subst (HasSome c.args.table.now c.deref.result.now) c.spatial.ensures.value (c.if-not-have_some.ensures.0 refl))

pub returns-then-not-have_some-clause-given : goal.returns-then-not-have_some-clause-given
returns-then-not-have_some-clause-given c =
    none_given c.args.table.now c.deref.result.now c.args.k c.args.case.now
    (c.deref.ensures.value ∙ c.in_ok-cell.ensures) (λ h.
    both_ways false refl (c.if-not-have_some.ensures.1 (subst (HasSome c.args.table.now c.deref.result.now)
    (sym c.spatial.ensures.value) h))) c.new.result.keys c.new.ensures.empty

pub returns-then-not-have_some-clause-few : goal.returns-then-not-have_some-clause-few
returns-then-not-have_some-clause-few c =
    none_large c.args.table.now c.deref.result.now c.args.k c.args.case.now
    (c.deref.ensures.value ∙ c.in_ok-cell.ensures) (λ h.
    both_ways false refl (c.if-not-have_some.ensures.1 (subst (HasSome c.args.table.now c.deref.result.now)
    (sym c.spatial.ensures.value) h))) c.args.most
