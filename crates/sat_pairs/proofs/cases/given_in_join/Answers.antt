use Rattle.std.proofs.Common.{◌≡◌, sym, subst}
use Rattle.std.proofs.lemmas.Result.{IfOk-weaker}
use Rattle.pair_family.specs.JoinOrder.{join_order}
use Rattle.pair_family.specs.Reordering.{Reorders, families_of}
use Rattle.pair_family.proofs.Reordered.{reordered_give}
use Rattle.sat_pairs.specs.CaseStates.{Passes}
use Rattle.sat_pairs.specs.Atoms.{AtomsGive, atom_pairs, lists_of}
use Rattle.sat_pairs.proofs.AtomLists.{atoms_give}
use Rattle.sat_pairs.proofs.LargeAtoms.{large_passes, passes_large}
use Rattle.sat_pairs.proofs.cases.given_in_join.Goals as goal

pub returns-clause-given : goal.returns-clause-given
returns-clause-given c =
    let a = c.args.case.now in
    let table = c.args.table.now in
    let cell = c.args.cell.now in
    let k = c.args.k in
    let xs = c.in_ok-ordered.ordered.items in
    let all = subst (Reorders xs) c.spatial.ensures.value c.in_ok-ordered.ensures.all in
    IfOk-weaker c.given_in_order.result _ _ (λ out h d.
    let same = reordered_give (atom_pairs table cell) k a.pure d xs a.spatial all in
    let give = atoms_give table cell k a.pure d a.spatial in
    let here = subst (λ z. AtomsGive table cell k z d xs) c.pure.ensures.value in
    let back = subst (λ z. AtomsGive table cell k z d xs) (sym c.pure.ensures.value) in
    let there = subst (λ z. AtomsGive table cell k c.pure.result.now d z) c.deref.ensures.value in
    let again = subst (λ z. AtomsGive table cell k c.pure.result.now d z) (sym c.deref.ensures.value) in
    (λ m. give.0 (same.0 (here (there ((h d).0 m)))), λ g. (h d).1 (again (back (same.1 (give.1 g))))))
    c.given_in_order.ensures.given

pub returns-clause-few : goal.returns-clause-few
returns-clause-few c =
    let a = c.args.case.now in
    let table = c.args.table.now in
    let cell = c.args.cell.now in
    let k = c.args.k in
    let xs = c.in_ok-ordered.ordered.items in
    let order = subst (λ z. xs ≡ join_order k z) c.spatial.ensures.value c.in_ok-ordered.ensures.order in
    IfOk-weaker c.given_in_order.result _ _ (λ out h l.
    let p = large_passes table cell k c.args.most a xs order l in
    h (subst (λ z. Passes c.args.most (families_of (lists_of table cell z)) k c.pure.result.now z)
    (sym c.deref.ensures.value) (subst (λ z. Passes c.args.most (families_of (lists_of table cell xs)) k z xs)
    (sym c.pure.ensures.value) p))) c.given_in_order.ensures.few

pub returns-clause-many : goal.returns-clause-many
returns-clause-many c e =
    let a = c.args.case.now in
    let table = c.args.table.now in
    let cell = c.args.cell.now in
    let k = c.args.k in
    let xs = c.in_ok-ordered.ordered.items in
    let order = subst (λ z. xs ≡ join_order k z) c.spatial.ensures.value c.in_ok-ordered.ensures.order in
    let p = subst (λ z. Passes c.args.most (families_of (lists_of table cell xs)) k z xs)
    c.pure.ensures.value (subst (λ z. Passes c.args.most (families_of (lists_of table cell z)) k c.pure.result.now z)
    c.deref.ensures.value (c.given_in_order.ensures.many e)) in
    passes_large table cell k c.args.most a xs order c.requires.some p
