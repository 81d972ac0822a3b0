use Rattle.std.proofs.Common.{◌≡◌, ◌∙◌, ◌+◌, true, false, map, List, sym, ap}
use Rattle.std.specs.Prelude.{Ok}
use Rattle.heap_formula.specs.Positions.{without}
use Rattle.fo_formula.specs.declared.atoms.FoAtom.{FoAtom}
use Rattle.fo_formula.specs.Words.{Word}
use Rattle.fo_formula.specs.Sizes.{words_size, atoms_size}
use Rattle.fo_formula.specs.Table.{right_premise}
use Rattle.fo_rules.specs.Capping.{capped}
use Rattle.fo_rules.proofs.Bounding.{within_passes, within_heavy, within_large}
use Rattle.fo_rules.proofs.CaseMaking.{rights_short, rights_measured, rights_made}
use Rattle.fo_rules.proofs.right_cases.case_in_place.Goals as goal

pub returns-then-not-is_small_with : goal.returns-then-not-is_small_with
returns-then-not-is_small_with c =
    let s = c.args.sequent.now in
    let n = words_size c.args.terms.now in
    let ps = map (right_premise s c.args.j c.args.arguments.now c.args.terms.now) c.args.case.now in
    let carried : c.size_of_terms.result ≡ capped n = c.size_of_terms.ensures
    ∙ ap (λ (ts : List Word). capped (words_size ts)) c.as_slice.ensures in
    let heavy : c.is_small_with.result ≡ false = c.if-not-is_small_with.true in
    within_heavy s n ps (Ok ps)
    (rights_short s c.args.j c.args.arguments.now c.args.terms.now c.args.case.now c.requires.left_fits
    c.requires.right_fits) (sym (c.is_small_with.ensures n carried) ∙ heavy)

pub returns-then-not-are_small : goal.returns-then-not-are_small
returns-then-not-are_small c =
    let s = c.args.sequent.now in
    let a = c.args.arguments.now in
    let t = c.args.terms.now in
    let n = words_size t in
    let ps = map (right_premise s c.args.j a t) c.args.case.now in
    let l = c.size_of_atoms.ensures ∙ ap (λ (xs : List FoAtom). capped (atoms_size xs)) c.as_slice-2.ensures in
    let r = c.size_of_atoms-2.ensures ∙ ap (λ (xs : List FoAtom). capped (atoms_size xs))
    (c.deref.ensures.value ∙ c.in_ok-kept.ensures.value) in
    let others : c.size_of_atoms.result + c.size_of_atoms-2.result
    ≡ capped (atoms_size s.left) + capped (atoms_size (without c.args.j s.right)) = λ i. l i + r i in
    let small = rights_measured s c.args.j a t c.args.case.now c.in_ok-clone.field-0 c.in_ok-clone-2.field-0
    c.in_ok-clone.ensures.cases c.in_ok-clone-2.ensures.cases (c.size_of_atoms.result + c.size_of_atoms-2.result)
    c.are_small.result c.requires.j_in others c.are_small.ensures in
    let large : c.are_small.result ≡ false = c.if-not-are_small.true in
    within_large s n ps (Ok ps) (rights_short s c.args.j a t c.args.case.now c.requires.left_fits c.requires.right_fits)
    (small ∙ large)

pub returns : goal.returns
returns c =
    let s = c.args.sequent.now in
    let a = c.args.arguments.now in
    let t = c.args.terms.now in
    let n = words_size t in
    let ps = map (right_premise s c.args.j a t) c.args.case.now in
    let l = c.size_of_atoms.ensures ∙ ap (λ (xs : List FoAtom). capped (atoms_size xs)) c.as_slice-2.ensures in
    let r = c.size_of_atoms-2.ensures ∙ ap (λ (xs : List FoAtom). capped (atoms_size xs))
    (c.deref.ensures.value ∙ c.in_ok-kept.ensures.value) in
    let others : c.size_of_atoms.result + c.size_of_atoms-2.result
    ≡ capped (atoms_size s.left) + capped (atoms_size (without c.args.j s.right)) = λ i. l i + r i in
    let small = rights_measured s c.args.j a t c.args.case.now c.in_ok-clone.field-0 c.in_ok-clone-2.field-0
    c.in_ok-clone.ensures.cases c.in_ok-clone-2.ensures.cases (c.size_of_atoms.result + c.size_of_atoms-2.result)
    c.are_small.result c.requires.j_in others c.are_small.ensures in
    let fits : c.are_small.result ≡ true = c.if-not-are_small.false in
    let carried : c.size_of_terms.result ≡ capped n = c.size_of_terms.ensures
    ∙ ap (λ (ts : List Word). capped (words_size ts)) c.as_slice.ensures in
    let light : c.is_small_with.result ≡ true = c.if-not-is_small_with.false in
    let made = rights_made s c.args.j a t c.args.case.now c.in_ok-clone.field-0 c.in_ok-clone-2.field-0
    c.in_ok-clone.ensures.cases c.in_ok-clone-2.ensures.cases c.in_ok-case_premises.field-0.items
    c.in_ok-case_premises.ensures in
    within_passes s n ps (Ok ps)
    (rights_short s c.args.j a t c.args.case.now c.requires.left_fits c.requires.right_fits)
    (sym (c.is_small_with.ensures n carried) ∙ light) (small ∙ fits) ∙ ap Ok (sym made)
