use Rattle.std.proofs.Common.{◌≡◌, ◌∙◌, ◌+◌, true, false, map, length, List, sym, ap}
use Rattle.std.specs.Prelude.{Ok, nat_le}
use Rattle.std.specs.List.{list_all}
use Rattle.heap_formula.specs.Positions.{without}
use Rattle.fo_formula.specs.declared.atoms.FoAtom.{FoAtom}
use Rattle.fo_formula.specs.Bounds.{sequent_bound}
use Rattle.fo_formula.specs.declared.table.faults.FoFault.TheVariants.{NoFreshVariable}
use Rattle.fo_formula.specs.Answers.{needs}
use Rattle.fo_formula.specs.Table.{is_numbered, unfold_premise}
use Rattle.fo_rules.proofs.Bounding.{all_short, within_long, within_fit, within_unfit}
use Rattle.fo_rules.proofs.CaseMaking.{unfolds_short, fit_measured}
use Rattle.fo_rules.proofs.unfolding.unfold_cases.Goals as goal

pub returns-then-not-are_short : goal.returns-then-not-are_short
returns-then-not-are_short c =
    let s = c.args.sequent.now in
    let n = sequent_bound s in
    let args = c.args.arguments.now in
    let cases = c.args.cases.now in
    let ps = map (unfold_premise s c.args.i args n) cases in
    let count : length c.as_slice-count.result.now
    ≡ length (without c.args.i s.left) = ap (λ (xs : List FoAtom). length xs)
    (c.as_slice-count.ensures.value ∙ c.in_ok-kept.ensures.value) in
    let short : c.are_short.result ≡ all_short ps = c.are_short.ensures
    ∙ ap (λ m. list_all (λ (x : List FoAtom). nat_le (m + length x) 32) cases) count
    ∙ unfolds_short s c.args.i args n cases c.requires.right_fits in
    let long : c.are_short.result ≡ false = c.if-not-are_short.true in
    within_long s 0 ps (needs (list_all (is_numbered n) cases) NoFreshVariable (Ok ps)) (sym short ∙ long)

pub returns-then-not-branch : goal.returns-then-not-branch
returns-then-not-branch c =
    let s = c.args.sequent.now in
    let n = sequent_bound s in
    let args = c.args.arguments.now in
    let cases = c.args.cases.now in
    let ps = map (unfold_premise s c.args.i args n) cases in
    let count : length c.as_slice-count.result.now
    ≡ length (without c.args.i s.left) = ap (λ (xs : List FoAtom). length xs)
    (c.as_slice-count.ensures.value ∙ c.in_ok-kept.ensures.value) in
    let short : c.are_short.result ≡ all_short ps = c.are_short.ensures
    ∙ ap (λ m. list_all (λ (x : List FoAtom). nat_le (m + length x) 32) cases) count
    ∙ unfolds_short s c.args.i args n cases c.requires.right_fits in
    let passed : c.are_short.result ≡ true = c.if-not-are_short.false in
    let fit = fit_measured s c.args.i args n cases c.deref.result.now c.in_ok-fit.field-0
    (c.deref.ensures.value ∙ c.in_ok-kept.ensures.value) c.in_ok-fit.ensures in
    let unfit : c.in_ok-fit.field-0 ≡ false = c.if-not-branch.true in
    within_unfit s 0 ps (needs (list_all (is_numbered n) cases) NoFreshVariable (Ok ps)) (sym short ∙ passed)
    (fit ∙ unfit)

pub returns-then-not-are_numbered : goal.returns-then-not-are_numbered
returns-then-not-are_numbered c =
    let s = c.args.sequent.now in
    let n = sequent_bound s in
    let args = c.args.arguments.now in
    let cases = c.args.cases.now in
    let ps = map (unfold_premise s c.args.i args n) cases in
    let count : length c.as_slice-count.result.now
    ≡ length (without c.args.i s.left) = ap (λ (xs : List FoAtom). length xs)
    (c.as_slice-count.ensures.value ∙ c.in_ok-kept.ensures.value) in
    let short : c.are_short.result ≡ all_short ps = c.are_short.ensures
    ∙ ap (λ m. list_all (λ (x : List FoAtom). nat_le (m + length x) 32) cases) count
    ∙ unfolds_short s c.args.i args n cases c.requires.right_fits in
    let passed : c.are_short.result ≡ true = c.if-not-are_short.false in
    let fit = fit_measured s c.args.i args n cases c.deref.result.now c.in_ok-fit.field-0
    (c.deref.ensures.value ∙ c.in_ok-kept.ensures.value) c.in_ok-fit.ensures in
    let fits : c.in_ok-fit.field-0 ≡ true = c.if-not-branch.false in
    let numbered : c.are_numbered.result ≡ list_all (is_numbered n) cases = c.are_numbered.ensures
    ∙ ap (λ m. list_all (is_numbered m) cases) c.bound_of_sequent-number.ensures.value in
    let none : c.are_numbered.result ≡ false = c.if-not-are_numbered.true in
    within_fit s 0 ps (needs (list_all (is_numbered n) cases) NoFreshVariable (Ok ps)) (sym short ∙ passed) (fit ∙ fits)
    ∙ ap (λ b. needs b NoFreshVariable (Ok ps)) (sym numbered ∙ none)

pub returns : goal.returns
returns c =
    let s = c.args.sequent.now in
    let n = sequent_bound s in
    let args = c.args.arguments.now in
    let cases = c.args.cases.now in
    let ps = map (unfold_premise s c.args.i args n) cases in
    let count : length c.as_slice-count.result.now
    ≡ length (without c.args.i s.left) = ap (λ (xs : List FoAtom). length xs)
    (c.as_slice-count.ensures.value ∙ c.in_ok-kept.ensures.value) in
    let short : c.are_short.result ≡ all_short ps = c.are_short.ensures
    ∙ ap (λ m. list_all (λ (x : List FoAtom). nat_le (m + length x) 32) cases) count
    ∙ unfolds_short s c.args.i args n cases c.requires.right_fits in
    let passed : c.are_short.result ≡ true = c.if-not-are_short.false in
    let fit = fit_measured s c.args.i args n cases c.deref.result.now c.in_ok-fit.field-0
    (c.deref.ensures.value ∙ c.in_ok-kept.ensures.value) c.in_ok-fit.ensures in
    let fits : c.in_ok-fit.field-0 ≡ true = c.if-not-branch.false in
    let number = c.bound_of_sequent-number.ensures.value in
    let numbered : c.are_numbered.result ≡ list_all (is_numbered n) cases = c.are_numbered.ensures
    ∙ ap (λ m. list_all (is_numbered m) cases) number in
    let fresh : c.are_numbered.result ≡ true = c.if-not-are_numbered.false in
    let made = c.in_ok-case_premises.ensures ∙ ap (λ m. map (unfold_premise s c.args.i args m) cases) number in
    within_fit s 0 ps (needs (list_all (is_numbered n) cases) NoFreshVariable (Ok ps)) (sym short ∙ passed) (fit ∙ fits)
    ∙ ap (λ b. needs b NoFreshVariable (Ok ps)) (sym numbered ∙ fresh) ∙ ap Ok (sym made)
