use Rattle.std.proofs.Common.{◌≡◌, ◌∙◌, ◌+◌, true, List, refl, sym, ap}
use Rattle.std.specs.Prelude.{nat_le}
use Rattle.fo_formula.specs.declared.atoms.FoAtom.{FoAtom}
use Rattle.fo_formula.specs.Sizes.{atoms_size, sequent_size}
use Rattle.fo_rules.specs.Capping.{capped}
use Rattle.fo_rules.proofs.CaseMaking.{fit_is, cases_measured}
use Rattle.fo_rules.proofs.unfolding.fit.Goals as goal

pub returns : goal.returns
returns c =
    let s = c.args.sequent.now in
    let l = c.size_of_atoms.ensures in
    let r = c.size_of_atoms-2.ensures ∙ ap (λ (xs : List FoAtom). capped (atoms_size xs)) c.as_slice.ensures in
    let others : c.size_of_atoms.result + c.size_of_atoms-2.result
    ≡ capped (atoms_size c.args.kept.now) + capped (atoms_size s.right) = λ i. l i + r i in
    let light : c.is_small_with.result ≡ true = c.if-not-is_small_with.false in
    fit_is (nat_le (sequent_size s + 0) 4096) _ c.are_small.result (sym (c.is_small_with.ensures 0 refl) ∙ light)
    (c.are_small.ensures
    ∙ cases_measured c.args.arguments.now c.args.cases.now c.in_ok-clone.field-0 c.from_vec.result
    (c.size_of_atoms.result + c.size_of_atoms-2.result) (capped (atoms_size c.args.kept.now) + capped
    (atoms_size s.right)) c.in_ok-clone.ensures.cases (c.from_vec.ensures ∙ c.new.ensures.items) others)
